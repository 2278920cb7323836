-- `hb_pair` shows what the operation pair gives.
use Rattle.capi.proofs.Rows.{pair_low}
use Rattle.capi.proofs.Shown.{shows}
use Rattle.capi.proofs.hb_pair.Goals as goal

pub show_pair-requires : goal.show_pair-requires
show_pair-requires c = pair_low _ _ _ _ _ c.pair-o.ensures

pub returns : goal.returns
returns c = shows _ c.pair-o.ensures c.show_pair.ensures
