-- What the scan for the list stands on: one net with its branches as they are, and the same with every branch 1 long.
use Rattle.std.specs.Prelude.{ℕ, ◌+◌, ◌*◌, ◌≤◌, ◌<◌, ◌≡◌, List, ℤ, length, ◌≤ℤ◌}
use Rattle.arrays.specs.At.{at}
use Rattle.pages.specs.Listing.{Entry}
use Rattle.pages.specs.declared.Sums.{Sums}
use Rattle.pages.specs.work.Keyed.{Keyed}
use Rattle.pages.specs.work.Lowered.{Weighs}
use Rattle.pages.specs.work.Filling.{Starts, Seconds}
use Rattle.paths.specs.work.Ground.{Ground}
use Rattle.paths.specs.work.Paths.{Paths, ArraysLent}
use Rattle.ground.specs.work.Grounded.{ValueIn, LengthIn}

-- two nets of one walk, by whose lengths a pair has a key and a length; it weighs the same in both
pub record Both (n : ℕ) (parent order place ones bl bw : List ℕ) : Type 0 where
  pub keys : Ground n parent order place ones bw
  pub lengths : Ground n parent order place bl bw
  pub agree : (a b k l : ℕ) (w z : ℤ) → ValueIn keys a b k w → ValueIn lengths a b l z → w ≡ z

-- and two sums between which the weights are that pass lifted
pub record ListStand (n : ℕ) (parent order place ones bl bw : List ℕ) (sums : Sums) : Type 0 where
  pub both : Both n parent order place ones bl bw
  pub floor : ℤ
  pub ceiling : ℤ
  pub weighs : Weighs (λ w. (floor ≤ℤ w) × (w ≤ℤ ceiling)) sums

-- the pairs that the scan takes, by the test that a key must pass
abbrev pub ListTaken : {n : ℕ} {parent order place ones bl bw : List ℕ} {sums : Sums} → (ℕ → Type 0)
    → ListStand n parent order place ones bl bw sums → Entry → Type 0
ListTaken {n} Within g =
    Keyed (ValueIn g.both.lengths) (LengthIn g.both.keys) Within (λ w. (g.floor ≤ℤ w) × (w ≤ℤ g.ceiling)) n

-- each first node that has such a pair is hit, in any net that fits the arrays
abbrev pub Hits : (ℕ → Type 0) → (n : ℕ) (parent order place ones bl bw : List ℕ) (sums : Sums) → List ℕ → Type 0
Hits Within n parent order place ones bl bw sums hits =
    (g : ListStand n parent order place ones bl bw sums) (e : Entry) → ListTaken Within g e → at hits e.low ≡ 1

-- four work arrays with their 4,096 places
pub record FourLent (above key len wt : List ℕ) : Type 0 where
  pub keys : ArraysLent above key wt
  pub lengths : ArraysLent above len wt

-- what the rows of one first node ask: the page and its room, a node, and not too many left over
pub record RowsReady (out : List ℕ) (room u n left : ℕ) : Type 0 where
  pub low : 16 * room ≤ length out
  pub high : length out < 16 * room + 16
  pub node : u < n
  pub few : left ≤ 4096 * u

-- the rows of first node u: nothing where it is not hit, else by keys, lengths and weights that the paths from u have
pub record RowsBy (Within : ℕ → Type 0) (n : ℕ) (parent order place ones bl bw : List ℕ) (u low high : ℕ) (sums : Sums)
    (old : List ℕ) (given left : ℕ) (now : List ℕ) (given₁ left₁ : ℕ) : Type 0 where
  pub key : List ℕ
  pub kt : List ℕ
  pub len : List ℕ
  pub wt : List ℕ
  pub from : ℕ
  pub keys : (g : Ground n parent order place ones bw) → Paths g u key kt
  pub lengths : (g : Ground n parent order place bl bw) → Paths g u len wt
  pub starts : Starts low high u n from
  pub seconds : Seconds Within key len wt u from sums n old given left now given₁ left₁

pub record RowsOf (Within : ℕ → Type 0) (n : ℕ) (parent order place ones bl bw : List ℕ) (u hit low high : ℕ)
    (sums : Sums) (old : List ℕ) (given left : ℕ) (now : List ℕ) (given₁ left₁ : ℕ) : Type 0 where
  pub none : (hit ≡ 1 → ⊥) → (now ≡ old) × (given₁ ≡ given) × (left₁ ≡ left)
  pub some : hit ≡ 1 → RowsBy Within n parent order place ones bl bw u low high sums old given left now given₁ left₁
