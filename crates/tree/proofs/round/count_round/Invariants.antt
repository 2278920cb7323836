-- `count_round` meets its contract: from x, on the climb from the row's second end, g - 1 rows lead back to that end.
use Rattle.arrays.specs.At.{at}
use Rattle.net.specs.Net.{first_end, second_end}
use Rattle.tree.proofs.Around.{Rounding}
use Rattle.tree.proofs.round.count_round.Given as goal

abbrev pub invariant-loop-x : goal.invariant-loop-x
invariant-loop-x l = Rounding (first_end l.s) (second_end l.s) l.r l.walk.parent l.walk.half l.walk.order l.walk.place
    l.x l.g

abbrev pub decreases-loop-x : goal.decreases-loop-x
decreases-loop-x l = at l.walk.place l.x
