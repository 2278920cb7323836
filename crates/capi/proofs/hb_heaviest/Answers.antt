-- `hb_heaviest` shows what the operation heaviest gives.
use Rattle.capi.proofs.Rows.{heaviest_low}
use Rattle.capi.proofs.Shown.{shows}
use Rattle.capi.proofs.hb_heaviest.Goals as goal

pub show_heaviest-requires : goal.show_heaviest-requires
show_heaviest-requires c = heaviest_low _ _ _ _ _ c.heaviest-o.ensures

pub returns : goal.returns
returns c = shows _ c.heaviest-o.ensures c.show_heaviest.ensures
