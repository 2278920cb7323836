-- `hb_commit` shows what the commit gives.
use Rattle.capi.proofs.Rows.{settle_low}
use Rattle.capi.proofs.Shown.{shows}
use Rattle.capi.proofs.hb_commit.Goals as goal

pub show_change-requires : goal.show_change-requires
show_change-requires c = settle_low _ _ _ _ _ c.commit-o.ensures

pub returns : goal.returns
returns c = shows _ c.commit-o.ensures (c.show_change.ensures _)
