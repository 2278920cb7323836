-- `paths::climb` goes up from a to node 0. The invariant: it has come to x, with the length and the lifted weight of
-- the path from a, and what it passed is marked. The place falls. No sum wraps or falls below 0, since a path has no
-- more than 4,095 branches and the weight is lifted by more than they all weigh (`sums_fit`).
use Prim.Native.Nat.{◌<◌}
use Rattle.arrays.specs.At.{at}
use Rattle.paths.specs.work.Sweeps.{Climbable, Climbing}
use Rattle.paths.proofs.Swept.climb.Given as goal

abbrev pub invariant-loop-x : goal.invariant-loop-x
invariant-loop-x l =
    Climbing l.self.n l.a l.self.parent.now l.self.place.now l.self.bl.now l.self.bw.now l.x l.length l.weight l.above
    × Climbable l.self.n l.a l.self.parent.now l.self.place.now l.self.bl.now l.self.bw.now × (l.x < 4096)

abbrev pub decreases-loop-x : goal.decreases-loop-x
decreases-loop-x l = at l.self.place.now l.x
