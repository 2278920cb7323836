-- The heads that a climb passes.
use Rattle.std.specs.Prelude.{ℕ, ◌+◌, ◌≤◌, ◌<◌, ◌≡◌, ◌≢◌, List}
use Rattle.arrays.specs.At.{at}
use Rattle.net.specs.Count.{Count}
use Rattle.net.specs.work.Rooted.{Above, Passed}
use Rattle.spines.specs.Spine.{Head}
use Rattle.spines.specs.work.Parents.{Child, Spined}

-- 1 where v is its own head, and else 0
pub record One (head : List ℕ) (v r : ℕ) : Type 0 where
  pub own : at head v ≡ v → r ≡ 1
  pub other : at head v ≢ v → r ≡ 0
  pub most : r ≤ 1

-- z is passed on the climb from x to t, and heads its spine
pub record Leaving (n : ℕ) (par : ℕ → ℕ) (t x z : ℕ) : Type 0 where
  pub passed : Passed par t x z
  pub own : Head (Child n par) n z z

-- a climb from x to t, in a walk whose heads are known
pub record HeadsClimbable (parent place head : List ℕ) (x t : ℕ) : Type 0 where
  pub n : ℕ
  pub spined : Spined n parent place head
  pub fits : x < n
  pub above : Above (at parent) t x

-- r heads are passed on it
pub record PassedHeads (n : ℕ) (parent place : List ℕ) (x t r : ℕ) : Type 0 where
  pub heads : Count (Leaving n (at parent) t x) r
  pub most : r + at place t ≤ at place x
