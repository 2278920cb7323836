use Rattle.ring.proofs.Union.{numbered_none, numbered_more}
use Rattle.ring.proofs.number.Goals as goal

pub loop-i-init : goal.loop-i-init
loop-i-init c = numbered_none _ c.told-up

pub loop-i-preserved : goal.loop-i-preserved
loop-i-preserved c = numbered_more _ _ c.loop-i-test.true c.loop-i.invariant
