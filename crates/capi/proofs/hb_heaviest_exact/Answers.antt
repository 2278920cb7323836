-- `hb_heaviest_exact` shows what the operation heaviest exact gives.
use Rattle.capi.proofs.Rows.{heaviest_low}
use Rattle.capi.proofs.Shown.{shows}
use Rattle.capi.proofs.hb_heaviest_exact.Goals as goal

pub show_heaviest-requires : goal.show_heaviest-requires
show_heaviest-requires c = heaviest_low _ _ _ _ _ c.heaviest_exact-o.ensures

pub returns : goal.returns
returns c = shows _ c.heaviest_exact-o.ensures c.show_heaviest.ensures
