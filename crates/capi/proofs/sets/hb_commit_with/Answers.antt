-- `hb_commit_with` shows what `commit_with` gives.
use Rattle.capi.proofs.RowsWith.{commit_with_low}
use Rattle.capi.proofs.Shown.{shows}
use Rattle.capi.proofs.sets.hb_commit_with.Goals as goal

pub show_change-requires : goal.show_change-requires
show_change-requires c = commit_with_low _ _ _ _ _ c.commit_with-o.ensures

pub returns : goal.returns
returns c = shows _ c.commit_with-o.ensures (c.show_change.ensures _)
