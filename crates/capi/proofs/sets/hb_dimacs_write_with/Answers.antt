-- `hb_dimacs_write_with` shows what `write_with` gives.
use native.Mathlib.Omega.{arith}
use Rattle.capi.proofs.RowsWith.{write_with_low}
use Rattle.capi.proofs.Shown.{shows}
use Rattle.capi.proofs.sets.hb_dimacs_write_with.Goals as goal

pub show_write-requires : goal.show_write-requires
show_write-requires c =
    let write-with-ensures = c.write_with-o.ensures in
    let good = c.well_formed in
    write_with_low _ _ _ _ _ (omega (arith, good.1.1.0.1)) (omega (arith, good.1.1.1.0.1)) write-with-ensures

pub returns : goal.returns
returns c =
    let write-with-ensures = c.write_with-o.ensures in
    shows _ write-with-ensures (c.show_write.ensures _ _)
