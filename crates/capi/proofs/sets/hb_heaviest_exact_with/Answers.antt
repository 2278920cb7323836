-- `hb_heaviest_exact_with` shows what `heaviest_exact_with` gives.
use Rattle.capi.proofs.RowsWith.{heaviest_exact_with_low}
use Rattle.capi.proofs.Shown.{shows}
use Rattle.capi.proofs.sets.hb_heaviest_exact_with.Goals as goal

pub show_heaviest-requires : goal.show_heaviest-requires
show_heaviest-requires c = heaviest_exact_with_low _ _ _ _ c.heaviest_exact_with-o.ensures

pub returns : goal.returns
returns c = shows _ c.heaviest_exact_with-o.ensures c.show_heaviest.ensures
