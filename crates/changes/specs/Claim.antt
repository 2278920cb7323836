-- Claim: each free branch of the path between two nodes becomes held by the run.
use Rattle.std.specs.Prelude.{List, ℕ, ◌-◌, ◌≤◌}
use Rattle.arrays.specs.At.{at}
use Rattle.table.specs.Refuse.{Unless}
use Rattle.table.specs.Header.{nodes_of, bound_of}
use Rattle.arrays.specs.Members.{In}
use Rattle.net.specs.Path.{Sum, Path}
use Rattle.tree.specs.Accept.{Begins}
use Rattle.net.specs.Net.{first_end, second_end, length_of, TwoNodes}
use Rattle.marks.specs.Mark.{Free}
use Rattle.changes.specs.Change.{Change, change_refusal, Done, MarksAndRun}

-- the rows rs are the path between a and b in a net of n nodes
abbrev pub PathBetween : List ℕ → ℕ → ℕ → List ℕ → ℕ → Type 0
PathBetween s n a rs b = Path (first_end s) (second_end s) (n - 1) a rs b

-- the path is no longer than the bound
pub record InReach (s : List ℕ) (n bound a b : ℕ) : Type 0 where
  pub rows : List ℕ
  pub path : PathBetween s n a rows b
  pub short : Sum (length_of s) rows ≤ bound

-- a free branch of the path
pub record Taken (s before : List ℕ) (n a b r : ℕ) : Type 0 where
  pub rows : List ℕ
  pub path : PathBetween s n a rows b
  pub on : In r rows
  pub free : Free (at before r)

-- along the path: 18, 19, then the claim
abbrev pub Ended : List ℕ → ℕ → ℕ → List ℕ → ℕ → ℕ → ℕ → Change × List ℕ → Type 0
Ended s n bound before run a b =
    Unless (Change × List ℕ) (change_refusal before 18 0 0) (InReach s n bound a b)
    (Unless (Change × List ℕ) (change_refusal before 19 0 0) ((r : ℕ) × Taken s before n a b r)
    (Done (Taken s before n a b) run before))

-- in a net of n nodes with a bound: 13, 14, 15, and then along the path
abbrev pub Claiming : List ℕ → ℕ → ℕ → List ℕ → ℕ → ℕ → ℕ → Change × List ℕ → Type 0
Claiming s n bound before run a b =
    MarksAndRun n before run
    (Unless (Change × List ℕ) (change_refusal before 15 0 0) (TwoNodes n a b)
    (Ended s n bound before run a b))

abbrev pub Claims : List ℕ → List ℕ → ℕ → ℕ → ℕ → Change × List ℕ → Type 0
Claims s before run a b =
    Begins (Change × List ℕ) (change_refusal before) s (Claiming s (nodes_of s) (bound_of s) before run a b)
