-- `passes` meets its contract. The loop's invariant, whichever tree it is: the rows below r are done.
use Rattle.mesh.specs.work.Bands.{AllPassed}
use Rattle.mesh.specs.work.Hung.{HungAt}
use Rattle.net.specs.Net.{first_end, second_end}
use mathlib.Core.List.{List}
use Prim.Native.Nat.{ℕ, ◌≤◌}
use Rattle.mesh.proofs.bands.passes.Given as goal

abbrev pub invariant-loop-r : goal.invariant-loop-r
invariant-loop-r l =
    (l.r ≤ l.rows)
    × ((n a : ℕ) (order : List ℕ) → HungAt (first_end l.s) (second_end l.s) l.rows n a l.tree.par order l.tree.place
    → AllPassed (first_end l.s) (second_end l.s) n a l.tree.par l.tree.place l.r l.over)
