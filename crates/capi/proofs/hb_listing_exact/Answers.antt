-- `hb_listing_exact` shows what the operation listing exact gives.
use Rattle.capi.proofs.Rows.{listing_low}
use Rattle.capi.proofs.Shown.{shows_page}
use Rattle.capi.proofs.hb_listing_exact.Goals as goal

pub show_page-requires : goal.show_page-requires
show_page-requires c = listing_low _ _ _ _ _ _ _ _ c.listing_exact-o.ensures

pub returns : goal.returns
returns c =
    let listing-exact-ensures = c.listing_exact-o.ensures in
    let fits = c.ranges in
    shows_page _ _ _ _ _ _ _ _ fits.floor listing-exact-ensures (c.show_page.ensures _)
