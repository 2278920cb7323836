-- Claim along the two climbs: what it asks, and what has become of the free rows.
use Rattle.std.specs.Prelude.{◌≡◌, List, ℕ, ◌-◌, length, set}
use Rattle.arrays.specs.At.{at}
use Rattle.arrays.specs.Members.{In}
use Rattle.net.specs.work.Rise.{Rise, row_of}
use Rattle.net.specs.work.Net.{Net}
use Rattle.net.specs.Net.{TwoNodes}
use Rattle.marks.specs.Mark.{Free, RunNumber}

-- each free row of rs has become m
pub record Held (rs : List ℕ) (m : ℕ) (before after : List ℕ) : Type 0 where
  pub same_many : length after ≡ length before
  pub becomes : (r : ℕ) → In r rs → Free (at before r) → at after r ≡ m
  pub stays : (r : ℕ) → (In r rs → Free (at before r) → ⊥) → at after r ≡ at before r

-- the mark of row r: m where it was free
pub record Takes (r m : ℕ) (now next : List ℕ) : Type 0 where
  pub taken : Free (at now r) → next ≡ set now r m
  pub left : (Free (at now r) → ⊥) → next ≡ now

-- the free rows of the climb from x to t have become m
pub record ClimbHeld (parent half : List ℕ) (x t m : ℕ) (before after : List ℕ) : Type 0 where
  pub rows : List ℕ
  pub rise : Rise (at parent) (row_of half) t x rows
  pub held : Held rows m before after

-- what a claim asks that is past 15: the walk of an accepted net, a mark for each branch, a run's number, two different
-- nodes
pub record ClaimReady (s marks : List ℕ) (n run a b : ℕ) : Type 0 where
  pub net : Net s n
  pub many : length marks ≡ n - 1
  pub number : RunNumber run
  pub pair : TwoNodes n a b
