-- `hb_window` shows what the operation window gives.
use Rattle.capi.proofs.Rows.{window_low}
use Rattle.capi.proofs.Shown.{shows_window}
use Rattle.capi.proofs.hb_window.Goals as goal

pub show_window-requires : goal.show_window-requires
show_window-requires c = window_low _ _ _ _ c.window-o.ensures

pub returns : goal.returns
returns c =
    let window-ensures = c.window-o.ensures in
    let fits = c.ranges in
    shows_window _ _ _ _ _ _ _ fits.floor fits.ceiling window-ensures c.show_window.ensures
