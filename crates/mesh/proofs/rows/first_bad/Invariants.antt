-- `rows::first_bad` meets its contract. The loop's invariant: every row below r has the number 0. A row with another
-- number is the first such.
use Rattle.table.specs.Examine.{RowNumber}
use Prim.Native.Nat.{ℕ, ◌<◌}
use Rattle.mesh.proofs.rows.first_bad.Given as goal

abbrev pub invariant-loop-r : goal.invariant-loop-r
invariant-loop-r l = (i : ℕ) → i < l.r → RowNumber l.head.nodes l.s i 0
