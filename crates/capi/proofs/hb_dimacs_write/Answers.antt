-- `hb_dimacs_write` shows what the operation dimacs write gives.
use native.Mathlib.Omega.{arith}
use Rattle.capi.proofs.Rows.{write_low}
use Rattle.capi.proofs.Shown.{shows}
use Rattle.capi.proofs.hb_dimacs_write.Goals as goal

pub show_write-requires : goal.show_write-requires
show_write-requires c =
    let write-ensures = c.write-o.ensures in
    let good = c.well_formed in
    write_low _ _ _ _ (omega (arith, good.1.0.1)) (omega (arith, good.1.1.0.1)) write-ensures

pub returns : goal.returns
returns c = shows _ c.write-o.ensures (c.show_write.ensures _ _)
