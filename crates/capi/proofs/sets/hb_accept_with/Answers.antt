-- `hb_accept_with` shows what `accept_with` gives.
use Rattle.capi.proofs.RowsWith.{accept_with_low}
use Rattle.capi.proofs.Shown.{shows}
use Rattle.capi.proofs.sets.hb_accept_with.Goals as goal

pub show_accept-requires : goal.show_accept-requires
show_accept-requires c = accept_with_low _ _ _ c.accept_with-o.ensures

pub returns : goal.returns
returns c = shows _ c.accept_with-o.ensures c.show_accept.ensures
