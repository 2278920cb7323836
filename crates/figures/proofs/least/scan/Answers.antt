use native.Mathlib.Omega.{arith}
use Rattle.figures.proofs.Leasts.{scan_step}
use Rattle.figures.proofs.least.scan.Goals as goal

pub loop-k-preserved : goal.loop-k-preserved
loop-k-preserved c =
    let h = c.loop-k.invariant in
    (omega arith, omega arith, scan_step c.args.above.now h.0 h.2 c.min-m.ensures)
