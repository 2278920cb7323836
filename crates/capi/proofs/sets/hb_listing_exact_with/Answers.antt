-- `hb_listing_exact_with` shows what `listing_exact_with` gives.
use mir.Syntax.{w64}
use mir.ValLaws.{to_z-of_z}
use Rattle.capi.proofs.RowsWith.{listing_exact_with_low}
use Rattle.capi.proofs.Shown.{shows}
use Rattle.capi.proofs.sets.hb_listing_exact_with.Goals as goal

pub show_page-requires : goal.show_page-requires
show_page-requires c =
    let listing-exact-with-ensures = c.listing_exact_with-o.ensures in
    listing_exact_with_low _ _ _ _ _ _ _ _ listing-exact-with-ensures

pub returns : goal.returns
returns c =
    let listing-exact-with-ensures = c.listing_exact_with-o.ensures in
    let args = c.args in
    let fits = c.ranges in
    shows _ (rw (to_z-of_z w64 args.floor fits.floor) at listing-exact-with-ensures) (c.show_page.ensures _)
