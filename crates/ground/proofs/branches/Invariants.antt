-- `ground::branches` reads each node's row. The invariant: the nodes below x have theirs; both lists keep their 4,096
-- places, so there is one for x.
use Rattle.ground.specs.work.Grounded.{Branches}
use Rattle.ground.proofs.branches.Given as goal

abbrev pub invariant-loop-x : goal.invariant-loop-x
invariant-loop-x l = Branches l.s l.marks l.half l.x l.bl l.bw
