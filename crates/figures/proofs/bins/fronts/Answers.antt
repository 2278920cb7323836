use native.Mathlib.Omega.{arith}
use Rattle.figures.proofs.Leasts.{front_step}
use Rattle.figures.proofs.bins.fronts.Goals as goal

pub loop-i-preserved : goal.loop-i-preserved
loop-i-preserved c = (omega arith, front_step (omega arith) c.loop-i.invariant.1 c.front_before.ensures c.min.ensures)
