-- `hb_convert` shows what the operation convert gives.
use Rattle.capi.proofs.Rows.{convert_low}
use Rattle.capi.proofs.Shown.{shows}
use Rattle.capi.proofs.hb_convert.Goals as goal

pub show_conversion-requires : goal.show_conversion-requires
show_conversion-requires c = convert_low _ _ _ c.convert-o.ensures

pub returns : goal.returns
returns c = shows _ c.convert-o.ensures c.show_conversion.ensures
