-- `hops` meets its contract: the heads that the two climbs pass, and one more where they meet: few enough for 16 bits
-- (`counted`).
use Prim.Native.Nat.{◌+◌}
use Rattle.tree.proofs.Meeting.{grown_hung}
use Rattle.spines.specs.work.Parents.{HopsBy}
use Rattle.spines.proofs.HopsCounted.{hops_counted}
use native.Mathlib.Omega.{arith}
use Rattle.spines.proofs.climbs.hops.Goals.{After-passed_heads-j}
use Rattle.spines.proofs.climbs.hops.Goals as goal

counted : (c : After-passed_heads-j)
    → HopsBy c.args.n c.args.parent.now
    c.args.place.now c.args.x
    c.args.y (1 + c.passed_heads-i.result + c.passed_heads-j.result)
counted c =
    let p = c.requires in
    hops_counted p.0 p.1 p.2 c.meet-t.ensures.0 c.passed_heads-i.ensures
    c.passed_heads-j.ensures

pub meet-t-requires : goal.meet-t-requires
meet-t-requires c = (grown_hung c.requires.0.grown, c.requires.1, c.requires.2)

pub overflow_add-result : goal.overflow_add-result
overflow_add-result c = omega (arith, (counted c).few)

pub overflow_add-result-2 : goal.overflow_add-result-2
overflow_add-result-2 c = omega (arith, (counted c).few)

pub overflow_cast-result : goal.overflow_cast-result
overflow_cast-result c = omega (arith, (counted c).few)

pub returns : goal.returns
returns c = counted c
