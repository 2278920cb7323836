-- `hb_pair_with` shows what `pair_with` gives.
use Rattle.capi.proofs.RowsWith.{pair_with_low}
use Rattle.capi.proofs.Shown.{shows}
use Rattle.capi.proofs.sets.hb_pair_with.Goals as goal

pub show_pair-requires : goal.show_pair-requires
show_pair-requires c = pair_with_low _ _ _ _ _ _ c.pair_with-o.ensures

pub returns : goal.returns
returns c = shows _ c.pair_with-o.ensures c.show_pair.ensures
