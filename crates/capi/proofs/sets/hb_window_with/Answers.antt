-- `hb_window_with` shows what `window_with` gives.
use mir.Syntax.{w64}
use mir.ValLaws.{to_z-of_z}
use Rattle.capi.proofs.RowsWith.{window_with_low}
use Rattle.capi.proofs.Shown.{shows}
use Rattle.capi.proofs.sets.hb_window_with.Goals as goal

pub show_window-requires : goal.show_window-requires
show_window-requires c = window_with_low _ _ _ _ _ c.window_with-o.ensures

pub returns : goal.returns
returns c =
    let args = c.args in
    let fits = c.ranges in
    shows _
    (rw (to_z-of_z w64 args.floor fits.floor, to_z-of_z w64 args.ceiling fits.ceiling)
    at c.window_with-o.ensures)
    c.show_window.ensures
