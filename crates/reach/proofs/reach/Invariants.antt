-- `reach` meets its contract: the places before head are done, and where head meets tail all nodes joined to the start
-- are in the order. The start is a node (`start_in`). The places are the proof's own, and begin as zeros.
use Prim.Native.Nat.{◌*◌, ◌-◌, ◌<◌}
use Rattle.net.specs.Net.{first_end, second_end}
use Rattle.net.specs.work.Rows.{Readable}
use Rattle.reach.specs.work.Chains.{Chained}
use Rattle.reach.specs.work.Queue.{Outer}
use Rattle.reach.specs.work.Placing.{Placed}
use Rattle.reach.proofs.reach.Given as goal

abbrev pub invariant-loop-head : goal.invariant-loop-head
invariant-loop-head l =
    Placed (Outer l.start (first_end l.s) (second_end l.s) l.rows l.head l.tail l.parent l.half l.order)
    × (l.start < 4096)
    × Readable l.s l.rows
    × Chained (first_end l.s) (second_end l.s) l.rows (2 * l.rows) l.first l.next

abbrev pub decreases-loop-head : goal.decreases-loop-head
decreases-loop-head l = 4096 - l.head
