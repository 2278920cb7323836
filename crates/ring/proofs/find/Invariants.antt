-- `find` meets its contract: t is on the climb from x, and its rank rises with each step.
use Prim.Native.Nat.{◌-◌, ◌<◌}
use Rattle.arrays.specs.At.{at}
use Rattle.ring.specs.work.Union.{Climb, Rises}
use Rattle.ring.proofs.find.Given as goal

abbrev pub invariant-loop-t : goal.invariant-loop-t
invariant-loop-t l = (l.t < 4096) × Climb l.up l.x l.t × Rises l.up l.rank 4096

abbrev pub decreases-loop-t : goal.decreases-loop-t
decreases-loop-t l = 4096 - at l.rank l.t
