use native.Mathlib.Omega.{arith}
use Rattle.convert.proofs.Readings.{behind_next, behind_bad, behind_all}
use Rattle.convert.proofs.each_mark.Goals as goal

pub returns-then-too_high : goal.returns-then-too_high
returns-then-too_high c =
    behind_bad c.args.marks.now c.loop-r.invariant (omega arith)
    (c.too_high.ensures.0 c.if-too_high.true)

pub loop-r-preserved : goal.loop-r-preserved
loop-r-preserved c =
    behind_next c.args.marks.now c.loop-r.invariant (c.too_high.ensures.1 c.if-too_high.false)

pub returns : goal.returns
returns c = behind_all c.args.marks.now c.loop-r.invariant (omega (arith, c.loop-r-test.false))
