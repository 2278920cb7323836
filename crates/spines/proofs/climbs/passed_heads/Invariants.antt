-- `passed_heads` meets its contract: the climb stands at v and has passed so many heads. Places fall along it.
use Rattle.arrays.specs.At.{at}
use Rattle.spines.specs.work.Climbs.{HeadsClimbable}
use Rattle.spines.proofs.HopsCounted.{Passing}
use Rattle.spines.proofs.climbs.passed_heads.Given as goal

abbrev pub invariant-loop-v : goal.invariant-loop-v
invariant-loop-v l =
    HeadsClimbable l.parent l.place l.head l.x l.t × ((k : HeadsClimbable l.parent l.place l.head l.x l.t) → Passing k
    l.v l.passed)

abbrev pub decreases-loop-v : goal.decreases-loop-v
decreases-loop-v l = at l.place l.v
