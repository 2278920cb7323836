-- `hb_accept` shows what acceptance gives.
use Rattle.capi.proofs.Rows.{accept_low}
use Rattle.capi.proofs.Shown.{shows}
use Rattle.capi.proofs.hb_accept.Goals as goal

pub show_accept-requires : goal.show_accept-requires
show_accept-requires c = accept_low _ _ c.accept-o.ensures

pub returns : goal.returns
returns c = shows _ c.accept-o.ensures c.show_accept.ensures
