-- `hb_heads` shows what the operation heads gives.
use Rattle.capi.proofs.Rows.{heads_low}
use Rattle.capi.proofs.Shown.{shows}
use Rattle.capi.proofs.hb_heads.Goals as goal

pub show_heads-requires : goal.show_heads-requires
show_heads-requires c = heads_low _ _ _ c.heads-o.ensures

pub returns : goal.returns
returns c = shows _ c.heads-o.ensures (c.show_heads.ensures _)
