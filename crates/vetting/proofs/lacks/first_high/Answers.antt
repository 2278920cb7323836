use native.Mathlib.Omega.{arith}
use Rattle.vetting.proofs.Lacking.{high_next}
use Rattle.vetting.proofs.lacks.first_high.Goals as goal

pub loop-b-init : goal.loop-b-init
loop-b-init c = λ v l k. absurd (omega (arith, l, k))

pub is_lacking-requires : goal.is_lacking-requires
is_lacking-requires c =
    (c.requires.0, record { asked = c.requires.1; pair = omega (arith, c.requires.1.node); node = c.loop-b-test.true })

pub returns-then-is_lacking : goal.returns-then-is_lacking
returns-then-is_lacking c =
    record {
      within = c.loop-b-test.true;
      before = c.loop-b.invariant;
      here = c.is_lacking.ensures.lacks c.if-is_lacking.true;
    }

pub loop-b-preserved : goal.loop-b-preserved
loop-b-preserved c = high_next c.loop-b.invariant c.if-is_lacking.false c.is_lacking.ensures

pub returns : goal.returns
returns c = λ v l k. c.loop-b.invariant v l (omega (arith, k, c.loop-b-test.false))
