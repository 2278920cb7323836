-- `hb_window_list` shows what the operation window list gives.
use Rattle.capi.proofs.Rows.{window_list_low}
use Rattle.capi.proofs.Shown.{shows_window_list}
use Rattle.capi.proofs.hb_window_list.Goals as goal

pub show_page-requires : goal.show_page-requires
show_page-requires c = window_list_low _ _ _ _ _ _ _ c.window_list-o.ensures

pub returns : goal.returns
returns c =
    let window-list-ensures = c.window_list-o.ensures in
    let fits = c.ranges in
    shows_window_list _ _ _ _ _ _ _ _ _ _ fits.floor fits.ceiling window-list-ensures (c.show_page.ensures _)
