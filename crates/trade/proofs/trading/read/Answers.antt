-- `read`: the outcome is the operation's, into enough lent bytes.
use lib.Seq.{length-take-le}
use mathlib.Core.Path.{refl, sym}
use Rattle.trade.specs.Told.{reads}
use Rattle.trade.proofs.Sizes.{table_within}
use Rattle.trade.proofs.Telling.{sized_front}
use Rattle.trade.proofs.trading.read.Goals as goal

pub refuse-requires : goal.refuse-requires
refuse-requires g c = (c.requires.1, reads refl c.requires.0 c.in-Err.ensures)

pub give_table-requires : goal.give_table-requires
give_table-requires g c = (
  c.requires.1,
  rw (sized_front _ _ (table_within c.in-Ok.ensures)) (reads refl c.requires.0 c.in-Ok.ensures),
)

pub slice_bounds-give_table-end : goal.slice_bounds-give_table-end
slice_bounds-give_table-end g c = table_within c.in-Ok.ensures

pub slice_bounds-give_table-end-in-Ok : goal.slice_bounds-give_table-end-in-Ok
slice_bounds-give_table-end-in-Ok g c = sym (length-take-le _ _ (table_within c.in-Ok.ensures))
