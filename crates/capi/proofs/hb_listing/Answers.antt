-- `hb_listing` shows what the operation listing gives.
use Rattle.capi.proofs.Rows.{listing_low}
use Rattle.capi.proofs.Shown.{shows_page}
use Rattle.capi.proofs.hb_listing.Goals as goal

pub show_page-requires : goal.show_page-requires
show_page-requires c = listing_low _ _ _ _ _ _ _ _ c.listing-o.ensures

pub returns : goal.returns
returns c =
    let listing-ensures = c.listing-o.ensures in
    let fits = c.ranges in
    shows_page _ _ _ _ _ _ _ _ fits.floor listing-ensures (c.show_page.ensures _)
