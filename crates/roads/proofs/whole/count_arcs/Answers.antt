use native.Mathlib.Omega.{arith}
use Rattle.roads.proofs.Surveying.{counting_none, counting_more, counting_bad, counting_done, arc_further}
use Rattle.roads.proofs.whole.count_arcs.Goals as goal

pub loop-i-init : goal.loop-i-init
loop-i-init c = counting_none _ _ _ c.past_comments-i.ensures

pub returns-in_err-arc : goal.returns-in_err-arc
returns-in_err-arc c =
    rw c.from_residual.ensures (counting_bad c.loop-i.invariant (omega arith) c.in_err-arc.ensures)

pub overflow_add-k : goal.overflow_add-k
overflow_add-k c = omega (arith, c.loop-i.invariant.few)

pub loop-i-smaller : goal.loop-i-smaller
loop-i-smaller c =
    let m = arc_further c.in_ok-arc.ensures in
    omega (arith, m.on, m.within, c.past_comments-i-in-loop-i.ensures.on)

pub loop-i-preserved : goal.loop-i-preserved
loop-i-preserved c = counting_more c.loop-i.invariant c.in_ok-arc.ensures c.past_comments-i-in-loop-i.ensures

pub returns : goal.returns
returns c = counting_done c.loop-i.invariant (omega arith)
