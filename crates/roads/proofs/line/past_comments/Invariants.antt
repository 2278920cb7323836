-- `past_comments` passes line after line that begins with c and has an end (proofs/Skipping).
use Prim.Native.Nat.{◌-◌}
use lib.ListN.{length}
use Rattle.roads.proofs.Skipping.{Passing}
use Rattle.roads.proofs.line.past_comments.Given as goal

abbrev pub invariant-loop-i : goal.invariant-loop-i
invariant-loop-i l = Passing l.s l.at l.i

abbrev pub decreases-loop-i : goal.decreases-loop-i
decreases-loop-i l = length l.s - l.i
