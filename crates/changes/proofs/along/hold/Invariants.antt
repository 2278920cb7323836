-- `changes::along::hold` meets its contract. The loop's invariant: the rows behind and the rows ahead are the climb's,
-- and the free ones behind are held. Short of t the climb stands at a node (`node_in`).
use Rattle.arrays.specs.At.{at}
use Rattle.changes.proofs.Climbing.{Taking}
use Rattle.changes.proofs.along.hold.Given as goal

abbrev pub invariant-loop-v : goal.invariant-loop-v
invariant-loop-v l = Taking l.initial.marks l.walk.parent l.walk.half l.walk.place l.x l.t l.run l.v l.marks

abbrev pub decreases-loop-v : goal.decreases-loop-v
decreases-loop-v l = at l.walk.place l.v
