use mathlib.Core.Path.{◌≡◌}
use native.Mathlib.Omega.{arith}
use Rattle.figures.proofs.Leasts.{gap_step}
use Rattle.figures.proofs.bins.gaps.Goals as goal

pub loop-i-preserved : goal.loop-i-preserved
loop-i-preserved c =
    (omega arith, λ above t. gap_step (omega arith) t (c.loop-i.invariant.1 above t) c.gap_between.ensures)

pub returns : goal.returns
returns c =
    λ above t. let e : c.loop-i.i ≡ 4096 = omega arith in rw e at (c.loop-i.invariant.1 above t)
