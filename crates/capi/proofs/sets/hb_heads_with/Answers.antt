-- `hb_heads_with` shows what `heads_with` gives.
use Rattle.capi.proofs.RowsWith.{heads_with_low}
use Rattle.capi.proofs.Shown.{shows}
use Rattle.capi.proofs.sets.hb_heads_with.Goals as goal

pub show_heads-requires : goal.show_heads-requires
show_heads-requires c = heads_with_low _ _ _ _ c.heads_with-o.ensures

pub returns : goal.returns
returns c = shows _ c.heads_with-o.ensures (c.show_heads.ensures _)
