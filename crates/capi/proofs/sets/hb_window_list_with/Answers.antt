-- `hb_window_list_with` shows what `window_list_with` gives.
use mir.Syntax.{w64}
use mir.ValLaws.{to_z-of_z}
use Rattle.capi.proofs.RowsWith.{window_list_with_low}
use Rattle.capi.proofs.Shown.{shows}
use Rattle.capi.proofs.sets.hb_window_list_with.Goals as goal

pub show_page-requires : goal.show_page-requires
show_page-requires c = window_list_with_low _ _ _ _ _ _ _ _ c.window_list_with-o.ensures

pub returns : goal.returns
returns c =
    let window-list-with-ensures = c.window_list_with-o.ensures in
    let args = c.args in
    let fits = c.ranges in
    shows _
    (rw (to_z-of_z w64 args.floor fits.floor, to_z-of_z w64 args.ceiling fits.ceiling)
    at window-list-with-ensures)
    (c.show_page.ensures _)
