-- `hb_vet` shows what the operation vet gives.
use native.Mathlib.Omega.{arith}
use Rattle.capi.proofs.Rows.{vet_low}
use Rattle.capi.proofs.Shown.{shows_vet}
use Rattle.capi.proofs.hb_vet.Goals as goal

pub show_vet-requires : goal.show_vet-requires
show_vet-requires c =
    let good = c.well_formed in
    vet_low _ _ _ _ _ (omega (arith, good.1.1.1.0)) c.vet-o.ensures

pub returns : goal.returns
returns c =
    let vet-ensures = c.vet-o.ensures in
    let fits = c.ranges in
    shows_vet _ _ _ _ _ fits.floor vet-ensures c.show_vet.ensures
