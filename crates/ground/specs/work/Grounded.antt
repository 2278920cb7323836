-- What a sweep over an accepted net stands on: its walk, and its branches under the marks.
use Rattle.std.specs.Prelude.{ℕ, ◌-◌, ◌/◌, ◌≤◌, ◌<◌, ◌≡◌, ◌≢◌, List, ℤ, length}
use Rattle.arrays.specs.At.{at}
use Rattle.table.specs.work.Diff.{Diff}
use Rattle.net.specs.Net.{first_end, second_end, length_of}
use Rattle.net.specs.work.Net.{Net}
use Rattle.net.specs.Value.{Value}
use Rattle.reach.specs.work.Walked.{Walked}
use Rattle.paths.specs.work.Ground.{Ground}
use Rattle.marks.specs.Weighs.{weight_under}
use Rattle.table.specs.work.Lift.{row_lift}

-- a path's value in the net that a sweep stands on
abbrev pub ValueIn : {n : ℕ} {parent order place bl bw : List ℕ} → Ground n parent order place bl bw → ℕ → ℕ → ℕ → ℤ
    → Type 0
ValueIn g = Value g.u g.v g.k g.long g.heavy

-- the same of the length alone: what a scan goes by, in this net or in one whose branches have other lengths
abbrev pub LengthIn : {n : ℕ} {parent order place bl bw : List ℕ} → Ground n parent order place bl bw → ℕ → ℕ → ℕ
    → Type 0
LengthIn g a b l = (w : ℤ) × ValueIn g a b l w

-- what is asked to read the branches: each node's row is a row of the net
pub record BranchesReadable (s : List ℕ) (n : ℕ) (half : List ℕ) : Type 0 where
  pub net : Net s n
  pub row : (x : ℕ) → x < n → x ≢ 0 → at half x / 2 < n - 1

-- the nodes below i have the length and the lifted weight of their branches
pub record Branches (s marks : List ℕ) (half : List ℕ) (i : ℕ) (bl bw : List ℕ) : Type 0 where
  pub length_is : (x : ℕ) → x < i → x ≢ 0 → at bl x ≡ length_of s (at half x / 2)
  pub weight_is : (x : ℕ) → x < i → x ≢ 0 → Diff (at bw x) row_lift (weight_under s marks (at half x / 2))
  pub light : (x : ℕ) → x < i → x ≢ 0 → at bw x ≤ 2000000
  pub bl_long : length bl ≡ 4096
  pub bw_long : length bw ≡ 4096

-- what a sweep over an accepted net stands on: its walk, and its branches under the marks
pub record Grounded (s marks : List ℕ) (n : ℕ) (parent half order place bl bw : List ℕ) : Type 0 where
  pub net : Net s n
  pub walked : Walked (first_end s) (second_end s) (n - 1) n parent half order place
  pub branches : Branches s marks half n bl bw
