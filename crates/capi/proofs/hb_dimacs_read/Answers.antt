-- `hb_dimacs_read` shows what the operation dimacs read gives.
use native.Mathlib.Omega.{arith}
use Rattle.capi.proofs.Rows.{read_low}
use Rattle.capi.proofs.Shown.{shows}
use Rattle.capi.proofs.hb_dimacs_read.Goals as goal

pub show_read-requires : goal.show_read-requires
show_read-requires c =
    let read-ensures = c.read-o.ensures in
    let good = c.well_formed in
    read_low _ _ _ _ _ (omega (arith, good.1.1.1.0.1)) read-ensures

pub returns : goal.returns
returns c = shows _ c.read-o.ensures (c.show_read.ensures _)
