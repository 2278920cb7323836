-- `window::list` tests 13, 30 and 17 in order, then gives the page.
use native.Mathlib.Omega.{arith}
use Rattle.table.specs.Refuse.{refused, passed}
use Rattle.window.proofs.list.Goals as goal

pub returns-then-marks-n : goal.returns-then-marks-n
returns-then-marks-n c = refused (λ h. c.if-marks-n.true (omega (arith, c.from-n.ensures)))

pub returns-then-not-proper : goal.returns-then-not-proper
returns-then-not-proper c =
    passed (omega (arith, c.if-marks-n.false, c.from-n.ensures))
    (refused (λ h. c.proper.ensures.0.fails c.if-not-proper.true h))

pub returns-then-rows-lt16 : goal.returns-then-rows-lt16
returns-then-rows-lt16 c =
    passed (omega (arith, c.if-marks-n.false, c.from-n.ensures))
    (passed (c.proper.ensures.0.holds c.if-not-proper.false) (refused (λ h. omega arith)))

pub page-k-requires : goal.page-k-requires
page-k-requires c = (c.requires, (c.proper.ensures.0.holds c.if-not-proper.false).positive)

pub returns : goal.returns
returns c =
    passed (omega (arith, c.if-marks-n.false, c.from-n.ensures))
    (passed (c.proper.ensures.0.holds c.if-not-proper.false)
    (passed (omega (arith, c.if-rows-lt16.false)) c.page-k.ensures))
