-- `figures::bins::tails` meets its contract: the invariant says that the table is right from place i on.
use Prim.Native.Nat.{◌≤◌}
use Rattle.figures.specs.work.Bins.{Tails}
use Rattle.figures.proofs.bins.tails.Given as goal

abbrev pub invariant-loop-i : goal.invariant-loop-i
invariant-loop-i l = (l.i ≤ 4096) × Tails l.above l.i l.tail
