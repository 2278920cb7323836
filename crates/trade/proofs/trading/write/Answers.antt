-- `write`: the outcome is the operation's, into enough lent bytes.
use lib.Seq.{length-take-le}
use mathlib.Core.Path.{refl, sym}
use Rattle.trade.specs.Told.{writes}
use Rattle.trade.proofs.Sizes.{texts_within}
use Rattle.trade.proofs.Telling.{sized_front}
use Rattle.trade.proofs.trading.write.Goals as goal

pub refuse-requires : goal.refuse-requires
refuse-requires g c = (c.requires.2, writes refl c.requires.0 c.requires.1 c.in-Err.ensures)

pub give_texts-requires : goal.give_texts-requires
give_texts-requires g c =
    let within = texts_within c.in-Ok.ensures in (
      c.requires.2,
      c.requires.3,
      rw (sized_front _ _ within.0, sized_front _ _ within.1)
          (writes refl c.requires.0 c.requires.1 c.in-Ok.ensures),
    )

pub slice_bounds-give_texts-end : goal.slice_bounds-give_texts-end
slice_bounds-give_texts-end g c = (texts_within c.in-Ok.ensures).0

pub slice_bounds-give_texts-end-in-Ok : goal.slice_bounds-give_texts-end-in-Ok
slice_bounds-give_texts-end-in-Ok g c = sym (length-take-le _ _ (texts_within c.in-Ok.ensures).0)

pub slice_bounds-give_texts-end-in-Ok-2 : goal.slice_bounds-give_texts-end-in-Ok-2
slice_bounds-give_texts-end-in-Ok-2 g c = (texts_within c.in-Ok.ensures).1

pub slice_bounds-give_texts-end-in-Ok-3 : goal.slice_bounds-give_texts-end-in-Ok-3
slice_bounds-give_texts-end-in-Ok-3 g c = sym (length-take-le _ _ (texts_within c.in-Ok.ensures).1)
