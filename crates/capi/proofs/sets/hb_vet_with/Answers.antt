-- `hb_vet_with` shows what `vet_with` gives.
use native.Mathlib.Omega.{arith}
use mir.Syntax.{w64}
use mir.ValLaws.{to_z-of_z}
use Rattle.capi.proofs.RowsWith.{vet_with_low}
use Rattle.capi.proofs.Shown.{shows}
use Rattle.capi.proofs.sets.hb_vet_with.Goals as goal

pub show_vet-requires : goal.show_vet-requires
show_vet-requires c =
    let good = c.well_formed in
    vet_with_low _ _ _ _ _ _ (omega (arith, good.1.1.1.1.0)) c.vet_with-o.ensures

pub returns : goal.returns
returns c =
    let args = c.args in
    let fits = c.ranges in
    shows _ (rw (to_z-of_z w64 args.floor fits.floor) at c.vet_with-o.ensures)
    c.show_vet.ensures
