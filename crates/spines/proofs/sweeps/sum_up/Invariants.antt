-- `sum_up` meets its contract. The places from i on have given their numbers to their parents; at the end the root
-- alone has not. The node at place i - 1 and its parent have a place in each array (`node_in`, `parent_in`), as the
-- walk reaches no other.
use Prim.Native.Nat.{ℕ, ◌≤◌, ◌<◌}
use mathlib.Core.List.{List}
use Rattle.reach.specs.work.Grown.{Ordered}
use Rattle.spines.specs.work.Sweeps.{Owns}
use Rattle.spines.proofs.Backward.{Given}
use Rattle.spines.proofs.sweeps.sum_up.Given as goal

abbrev pub invariant-loop-i : goal.invariant-loop-i
invariant-loop-i g l =
    (k : Ordered l.n l.parent l.order)
    × ((L : List ℕ) → Owns L l.n l.parent (goal.F-pre g l.own) (goal.F-post g l.own)
    → Given L l.n l.parent k.place l.i l.sum)
    × (0 < l.i)
    × (l.i ≤ l.n)
    × (L : List ℕ)
    × Owns L l.n l.parent (goal.F-pre g l.own) (goal.F-post g l.own)
