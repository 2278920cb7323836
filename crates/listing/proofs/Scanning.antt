-- The scan over the first nodes, whose key is the length: what it takes in a net is what a listing considers, and what
-- it gives of any ground it gives of the accepted net's own.
use Prim.Native.Nat.{ℕ, ◌+◌, ◌≤◌, ◌<◌}
use mathlib.Core.Path.{◌≡◌}
use mathlib.Core.List.{List}
use lib.IntN.{ℤ}
use lib.Signed.{◌≤ℤ◌}
use Rattle.pages.specs.Listing.{Entry}
use Rattle.pages.specs.Passes.{Qualifies}
use Rattle.pages.specs.Paged.{Paged}
use Rattle.pages.specs.declared.Sums.{Sums}
use Rattle.pages.specs.work.Keyed.{Keyed}
use Rattle.pages.specs.work.Lowered.{Weighs}
use Rattle.pages.specs.work.Filling.{Starts, Seconds}
use Rattle.pages.proofs.Only.{paged_iff}
use Rattle.pages.proofs.Firsts.{Scanning, scanning_next, scanning_end}
use Rattle.paths.specs.work.Ground.{Ground}
use Rattle.paths.specs.work.Paths.{Paths}
use Rattle.ground.specs.PathOf.{PathOf}
use Rattle.ground.specs.work.Grounded.{ValueIn, LengthIn, Grounded}
use Rattle.ground.proofs.Branching.{ground}
use Rattle.ground.proofs.Scanned.{single, valued, by_length, by_key}

-- what the scan takes in a net
abbrev pub Taken : (n : ℕ) (parent order place bl bw : List ℕ) → (ℕ → Type 0) → ℤ
    → Ground n parent order place bl bw → Entry → Type 0
Taken n parent order place bl bw Within floor g = Keyed (ValueIn g) (LengthIn g) Within (λ w. floor ≤ℤ w) n

module _ {n : ℕ} {parent order place bl bw : List ℕ} {Within : ℕ → Type 0} {floor : ℤ} {low high : ℕ} {page : List ℕ}
    {room u given left : ℕ} {mid : List ℕ}
    (c : Scanning (Ground n parent order place bl bw) (Taken n parent order place bl bw Within floor) low high page room
    u given left mid) where
  -- one first node more, by one sweep
  pub taken_next : {len wt now : List ℕ} {sums : Sums} {from given₁ left₁ : ℕ} → u < n → n ≤ 4096
      → ((g : Ground n parent order place bl bw) → Paths g u len wt) → Starts low high u n from
      → Weighs (λ w. floor ≤ℤ w) sums → Seconds Within len len wt u from sums n mid given left now given₁ left₁
      → Scanning (Ground n parent order place bl bw) (Taken n parent order place bl bw Within floor) low high page room
      (u + 1) given₁ left₁ now
  taken_next b m p z r s =
      scanning_next {Value = ValueIn} {Key = LengthIn} {Heavy = λ g w. floor ≤ℤ w} c b m (λ g. single g g)
      (λ g. valued g g (p g) (p g)) z (λ g. r) s

  -- all are passed: the page of what a listing considers
  pub taken_end : n ≤ u → (g : Ground n parent order place bl bw)
      → Paged (Qualifies (ValueIn g) Within floor n) low high page given left mid
  taken_end b g =
      paged_iff (by_length g) (by_key g)
      (scanning_end {Value = ValueIn} {Key = LengthIn} {Heavy = λ g w. floor ≤ℤ w} c b g)

-- what a scan of n nodes gives of any ground, it gives of the accepted net's own
pub scanned : {s marks parent half order place bl bw : List ℕ} {n nodes : ℕ} {Within : ℕ → Type 0} {floor : ℤ}
    {low high given left : ℕ} {old now : List ℕ} → n ≡ nodes → Grounded s marks nodes parent half order place bl bw
    → ((g : Ground n parent order place bl bw)
    → Paged (Qualifies (ValueIn g) Within floor n) low high old given left now)
    → Paged (Qualifies (PathOf s marks nodes) Within floor nodes) low high old given left now
scanned {s} {marks} {parent} {half} {order} {place} {bl} {bw} {n} e q f =
    let q₁ : Grounded s marks n parent half order place bl bw = rw e q in
    rw e at (f (ground q₁))
