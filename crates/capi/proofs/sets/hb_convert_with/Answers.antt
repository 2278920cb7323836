-- `hb_convert_with` shows what `convert_with` gives.
use Rattle.capi.proofs.RowsWith.{convert_with_low}
use Rattle.capi.proofs.Shown.{shows}
use Rattle.capi.proofs.sets.hb_convert_with.Goals as goal

pub show_conversion-requires : goal.show_conversion-requires
show_conversion-requires c = convert_with_low _ _ _ _ c.convert_with-o.ensures

pub returns : goal.returns
returns c = shows _ c.convert_with-o.ensures c.show_conversion.ensures
