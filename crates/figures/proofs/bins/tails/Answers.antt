use native.Mathlib.Omega.{arith}
use Rattle.figures.proofs.Leasts.{tail_down}
use Rattle.figures.proofs.bins.tails.Goals as goal

pub loop-i-preserved : goal.loop-i-preserved
loop-i-preserved c =
    (omega arith, tail_down (omega arith) (omega arith) c.loop-i.invariant.1 c.tail_behind.ensures c.min.ensures)
