-- `hb_abort_with` shows what `abort_with` gives.
use Rattle.capi.proofs.RowsWith.{abort_with_low}
use Rattle.capi.proofs.Shown.{shows}
use Rattle.capi.proofs.sets.hb_abort_with.Goals as goal

pub show_change-requires : goal.show_change-requires
show_change-requires c = abort_with_low _ _ _ _ _ c.abort_with-o.ensures

pub returns : goal.returns
returns c = shows _ c.abort_with-o.ensures (c.show_change.ensures _)
