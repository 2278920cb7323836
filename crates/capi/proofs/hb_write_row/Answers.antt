-- `hb_write_row` shows what the operation write row gives.
use Rattle.capi.proofs.Rows.{row_low}
use Rattle.capi.proofs.Shown.{shows}
use Rattle.capi.proofs.hb_write_row.Goals as goal

pub show_row-requires : goal.show_row-requires
show_row-requires c = row_low _ _ _ _ _ _ _ c.write_row-o.ensures

pub returns : goal.returns
returns c = shows _ c.write_row-o.ensures (c.show_row.ensures _)
