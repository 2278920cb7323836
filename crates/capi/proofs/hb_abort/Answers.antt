-- `hb_abort` shows what the abort gives.
use Rattle.capi.proofs.Rows.{settle_low}
use Rattle.capi.proofs.Shown.{shows}
use Rattle.capi.proofs.hb_abort.Goals as goal

pub show_change-requires : goal.show_change-requires
show_change-requires c = settle_low _ _ _ _ _ c.abort-o.ensures

pub returns : goal.returns
returns c = shows _ c.abort-o.ensures (c.show_change.ensures _)
