-- `tree::meet` meets its contract. The loop's invariant: both climbs stand above their nodes, and whatever is above
-- both nodes is above both places. The measure is the sum of the two places. Both climbs stand at nodes
-- (`a_in`, `b_in`), so what is read at them is there.
use Rattle.arrays.specs.At.{at}
use Rattle.tree.proofs.Meeting.{Meeting}
use Prim.Native.Nat.{◌+◌}
use Rattle.tree.proofs.two_climbs.meet.Given as goal

abbrev pub invariant-loop-a : goal.invariant-loop-a
invariant-loop-a l = Meeting l.n (at l.parent) l.x l.y l.a l.b

abbrev pub decreases-loop-a : goal.decreases-loop-a
decreases-loop-a l = at l.place l.a + at l.place l.b
