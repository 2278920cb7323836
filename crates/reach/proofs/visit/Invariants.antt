-- `visit` meets its contract: of the half-branches that leave the node at the head, those from x on are done. The node
-- that one leads to has a place in each array (`node_in`), since the rows join nodes below 4,096.
-- Where a node is put into the order, the proof notes its place: the code keeps none.
use Rattle.arrays.specs.At.{at}
use Rattle.net.specs.Net.{first_end, second_end}
use Rattle.net.specs.work.Rows.{Readable}
use Rattle.reach.specs.work.Placing.{Placed}
use Rattle.reach.proofs.Queue.{Going}
use Rattle.reach.proofs.visit.Given as goal

abbrev pub invariant-loop-x : goal.invariant-loop-x
invariant-loop-x l =
    Placed (Going (at l.initial.order 0) (first_end l.s) (second_end l.s) l.rows l.first l.next l.head l.p l.x l.m
    l.parent l.half l.order)
    × Readable l.s l.rows

abbrev pub decreases-loop-x : goal.decreases-loop-x
decreases-loop-x l = l.x
