-- `hb_heaviest_with` shows what `heaviest_with` gives.
use Rattle.capi.proofs.RowsWith.{heaviest_with_low}
use Rattle.capi.proofs.Shown.{shows}
use Rattle.capi.proofs.sets.hb_heaviest_with.Goals as goal

pub show_heaviest-requires : goal.show_heaviest-requires
show_heaviest-requires c = heaviest_with_low _ _ _ _ c.heaviest_with-o.ensures

pub returns : goal.returns
returns c = shows _ c.heaviest_with-o.ensures c.show_heaviest.ensures
