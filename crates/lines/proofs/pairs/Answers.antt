use native.Mathlib.Omega.{arith}
use Rattle.lines.proofs.Lining.{lining_none, lining_more, lining_done}
use Rattle.lines.proofs.pairs.Goals as goal

pub loop-i-init : goal.loop-i-init
loop-i-init c = lining_none (omega arith) (omega arith) (omega arith)

pub loop-i-preserved : goal.loop-i-preserved
loop-i-preserved c =
    let pair-ensures = c.pair-at.ensures in
    let loop-inv = c.loop-i.invariant in
    lining_more loop-inv (omega arith) pair-ensures.0 pair-ensures.1

pub shape_of-out : goal.shape_of-out
shape_of-out c = c.loop-i.invariant.put.same

pub returns : goal.returns
returns c = lining_done c.loop-i.invariant (omega arith)
