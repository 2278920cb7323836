-- Which old marks read as they did: 65,535 of those with the top bit set, and of the others all below "unknown". One
-- that reads as it did is not too high.
use mathlib.Core.Path.{◌≡◌, refl}
use mathlib.Core.Logic.{◌≢◌}
use mathlib.Core.List.{List}
use Prim.Native.Nat.{ℕ, ◌+◌, ◌≤◌, ◌<◌}
use native.Mathlib.Decide.{ℕ_discrete, dec_lt}
use native.Mathlib.Omega.{arith}
use lib.ListN.{length}
use Rattle.arrays.specs.At.{at}
use Rattle.table.specs.Refuse.{passed, refused, bad, fine}
use Rattle.marks.specs.Mark.{top, unknown, run_of, Free, RunNumber}
use Rattle.marks.proofs.Readings.{own_held}
use Rattle.convert.specs.Old.{ReadsOn, still_free, still_held, still_spent}
use Rattle.convert.specs.Convert.{conversion_refusal, TooHigh, MarkNumber, EachMark}
use Rattle.std.specs.Prelude.{Ok}

pub spent_on : {m : ℕ} → m < 65536 → top ≤ m → run_of m ≡ unknown → ReadsOn m
spent_on l s e = still_spent (omega (arith, l, s, e)) (record { spent = s; keeps = e })

pub held_on : {m : ℕ} → m < top → run_of m ≢ unknown → ReadsOn m
held_on {m} l e = pick (ℕ_discrete m 0)
  where
    pick : Dec (Free m) → ReadsOn m
    pick (yes f) = still_free f f
    pick (no n) =
        let N : RunNumber m = record { above = omega (arith, n); below = omega (arith, l, e) } in
        still_held m (record { is = refl; above = N.above; below = omega (arith, l) }) (own_held N refl) N

pub on_not_high : {m : ℕ} → ReadsOn m → TooHigh m → ⊥
on_not_high (still_free w f) h = omega (arith, w, h)
on_not_high (still_held run w d n) h = omega (arith, w.is, n.below, h)
on_not_high (still_spent w s) h = omega (arith, w, h)

-- Mark after mark: each before row r reads as it did
abbrev pub Behind : List ℕ → ℕ → Type 0
Behind marks r = (i : ℕ) → i < r → ReadsOn (at marks i)

module _ (marks : List ℕ) {r : ℕ} (b : Behind marks r) where
  pub behind_next : ReadsOn (at marks r) → Behind marks (r + 1)
  behind_next o i l = pick (dec_lt i r)
    where
      pick : Dec (i < r) → ReadsOn (at marks i)
      pick (yes h) = b i h
      pick (no h) = let e : i ≡ r = omega (arith, l, h) in rw e o

  good : (i : ℕ) → i < r → MarkNumber marks i 0
  good i l = passed (on_not_high (b i l)) refl

  pub behind_bad : r < length marks → TooHigh (at marks r) → EachMark marks (conversion_refusal 24 r 0)
  behind_bad l h = bad r 24 l good (refused (λ n. n h)) (λ e. omega (arith, e))

  pub behind_all : length marks ≤ r → EachMark marks (Ok tt)
  behind_all h = fine {x = Ok tt} (λ i l. good i (omega (arith, l, h))) (λ i l. b i (omega (arith, l, h)))
