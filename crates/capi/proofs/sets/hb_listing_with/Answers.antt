-- `hb_listing_with` shows what `listing_with` gives.
use mir.Syntax.{w64}
use mir.ValLaws.{to_z-of_z}
use Rattle.capi.proofs.RowsWith.{listing_with_low}
use Rattle.capi.proofs.Shown.{shows}
use Rattle.capi.proofs.sets.hb_listing_with.Goals as goal

pub show_page-requires : goal.show_page-requires
show_page-requires c = listing_with_low _ _ _ _ _ _ _ _ c.listing_with-o.ensures

pub returns : goal.returns
returns c =
    let listing-with-ensures = c.listing_with-o.ensures in
    let args = c.args in
    let fits = c.ranges in
    shows _ (rw (to_z-of_z w64 args.floor fits.floor) at listing-with-ensures) (c.show_page.ensures _)
