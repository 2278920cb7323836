-- `figures::bins::fronts` meets its contract: the invariant says that the table is right below place i.
use Prim.Native.Nat.{◌≤◌}
use Rattle.figures.specs.work.Bins.{Fronts}
use Rattle.figures.proofs.bins.fronts.Given as goal

abbrev pub invariant-loop-i : goal.invariant-loop-i
invariant-loop-i l = (l.i ≤ 4096) × Fronts l.above l.i l.front
