use native.Mathlib.Omega.{arith}
use Rattle.vetting.proofs.Repeating.{passing_start, passing_next, passing_found, passing_end}
use Rattle.vetting.proofs.repeats.first_repeat.Goals as goal

pub loop-i-init : goal.loop-i-init
loop-i-init c = passing_start c.clear.ensures

pub admit-requires : goal.admit-requires
admit-requires c =
    let named = c.requires.named in
    let row = c.loop-i-test.true in (
      c.requires.block,
      omega (arith, named.pair _ row, c.two-a.ensures.0, c.two-b.ensures.0),
      omega (arith, named.node _ row, c.two-b.ensures.0),
      c.loop-i.invariant.long,
    )

pub returns-then-not-admit : goal.returns-then-not-admit
returns-then-not-admit c =
    passing_found c.requires.named c.loop-i-test.true c.loop-i.invariant c.two-a.ensures.0 c.two-b.ensures.0
    c.admit.ensures c.if-not-admit.true

pub loop-i-preserved : goal.loop-i-preserved
loop-i-preserved c =
    passing_next c.requires.named c.loop-i-test.true c.loop-i.invariant c.two-a.ensures.0 c.two-b.ensures.0
    c.admit.ensures c.if-not-admit.false

pub returns : goal.returns
returns c = passing_end (omega arith) (omega (arith, c.loop-i-test.false)) c.loop-i.invariant
