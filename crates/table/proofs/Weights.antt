-- Scores. Each lies from −50 to 24, so that what a count of cells weighs fits 32 bits, and is in a weight's range where
-- the count is at most 20,000. Then a row's weight by the table's version.
use mathlib.Core.Path.{◌≡◌, refl}
use mathlib.Core.Bool.{Bool, true, false, cond, ◌&&◌}
use mathlib.Core.List.{List, [], ◌∷◌}
use mathlib.Core.Logic.{◌≢◌}
use Prim.Native.Nat.{ℕ, zero, suc, ◌*◌, ◌≤◌, ◌<◌}
use native.Mathlib.Nat.{mul-le-mul}
use native.Mathlib.Decide.{ℕ_discrete}
use native.Mathlib.Omega.{arith}
use lib.Dec.{T, leb, ltb, leb→le}
use lib.ListN.{get_or}
use lib.IntN.{ℤ, pos, negsuc, neg_ℤ, ◌*ℤ◌}
use mir.Syntax.{w32}
use mir.Val.{to_z, of_z, SFits}
use mir.ValLaws.{to_z-of_z}
use mir.Facts.{and_yes}
use borrow.Author.Tests.{eq-eqb}
use Rattle.table.specs.Signed.{InRange}
use Rattle.table.specs.Header.{version_of}
use Rattle.table.specs.Scores.{scores, score_of}
use Rattle.table.specs.Row.{weight_at, kind_at, count_at}
use Rattle.table.proofs.Range.{up_within, down_within}

-- No entry of the score table is above 24: tested entry by entry
abbrev few : List ℕ → Bool
few [] = true
few (x ∷ xs) = leb x 24 && few xs

few_at : (xs : List ℕ) → T (few xs) → (k : ℕ) → get_or xs k 0 ≤ 24
few_at [] t k = omega arith
few_at (x ∷ xs) t zero = leb→le x 24 (and_yes (leb x 24) (few xs) t).0
few_at (x ∷ xs) t (suc k) = few_at xs (and_yes (leb x 24) (few xs) t).1 k

score_few : (k : ℕ) → get_or scores k 0 ≤ 24
score_few k = few_at scores tt k

-- so every score is one of these
data Scored : ℤ → Type 0 where
  above : (n : ℕ) → n ≤ 24 → Scored (pos n)
  blocked : Scored (negsuc 49)

either : (b : Bool) {x y : ℤ} → Scored x → Scored y → Scored (cond b x y)
either true p q = p
either false p q = q

scored : (kind : ℕ) → Scored (score_of kind)
scored kind =
    let nothing : Scored (pos 0) = above 0 (omega arith) in
    either (ltb kind 24) (above (get_or scores kind 0) (score_few kind))
    (either (ltb kind 32) nothing (either (ltb kind 64) blocked nothing))

negative_fits : (m : ℕ) → m ≤ 2147483648 → SFits w32 (neg_ℤ (pos m))
negative_fits zero h = record { sfits = omega arith }
negative_fits (suc n) h = record { sfits = omega arith }

negative_within : (m : ℕ) → m ≤ 1000000 → InRange (neg_ℤ (pos m))
negative_within zero h = up_within 0 (omega arith)
negative_within (suc n) h = down_within n (omega arith)

cells_fit : {z : ℤ} (count : ℕ) → count < 65536 → Scored z → SFits w32 (pos count *ℤ z)
cells_fit count h (above n k) =
    let p : count * n ≤ 65535 * 24 = mul-le-mul {n₂ = 65535} (omega arith) k in record { sfits = omega (arith, p) }
cells_fit count h blocked = negative_fits (count * 50) (omega arith)

cells_within : {z : ℤ} (count : ℕ) → count ≤ 20000 → Scored z → InRange (pos count *ℤ z)
cells_within count h (above n k) =
    let p : count * n ≤ 20000 * 24 = mul-le-mul h k in up_within (count * n) (omega (arith, p))
cells_within count h blocked = negative_within (count * 50) (omega arith)

-- What the code multiplies: a count and a score, as they are returned
module _ (kind count : ℕ) {x z : ℤ} (h : count < 65536) (g : SFits w32 x) (d : x ≡ pos count) (f : SFits w32 z)
    (e : z ≡ score_of kind) where
  pub weighing : to_z w32 (of_z w32 x) *ℤ to_z w32 (of_z w32 z) ≡ pos count *ℤ score_of kind
  weighing = rw (to_z-of_z w32 x g, to_z-of_z w32 z f, d, e) refl

  pub weighing_fits : SFits w32 (to_z w32 (of_z w32 x) *ℤ to_z w32 (of_z w32 z))
  weighing_fits = rw weighing (cells_fit count h (scored kind))

-- A row's weight, by the table's version
module _ (s : List ℕ) (r : ℕ) where
  pub weight_by_kind : version_of s ≡ 2 → weight_at s r ≡ pos (count_at s r) *ℤ score_of (kind_at s r)
  weight_by_kind e = rw (eq-eqb (version_of s) 2 e) refl

  -- the weight of a row that passes 10 and 23 is in range
  pub weight_good : (version_of s ≢ 2 → InRange (weight_at s r)) → (version_of s ≡ 2 → count_at s r ≤ 20000)
      → InRange (weight_at s r)
  weight_good own count = pick (ℕ_discrete (version_of s) 2)
    where
      pick : Dec (version_of s ≡ 2) → InRange (weight_at s r)
      pick (yes e) = rw (weight_by_kind e) (cells_within (count_at s r) (count e) (scored (kind_at s r)))
      pick (no n) = own n
