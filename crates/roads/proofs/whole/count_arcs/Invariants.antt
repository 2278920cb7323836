-- `count_arcs` counts arc after arc up to the end, or to a line that is bad (proofs/Surveying).
use Prim.Native.Nat.{◌-◌}
use lib.ListN.{length}
use Rattle.roads.proofs.Surveying.{Counting}
use Rattle.roads.proofs.whole.count_arcs.Given as goal

abbrev pub invariant-loop-i : goal.invariant-loop-i
invariant-loop-i l = Counting l.kind.top l.kind.low l.kind.nodes l.s l.first l.i l.k

abbrev pub decreases-loop-i : goal.decreases-loop-i
decreases-loop-i l = length l.s - l.i
