-- What the listing gives and leaves over is bounded, and the rows given stand in the lent bytes, as of every page.
use Rattle.paging.specs.Paging.{listed}
use Prim.Native.Nat.{ℕ, ◌+◌, ◌*◌, ◌≤◌}
use mathlib.Core.List.{List}
use lib.IntN.{ℤ}
use lib.ListN.{length}
use Rattle.paging.proofs.Few.{paged_few, paged_room}
use Rattle.listing.specs.Listing.{ListingWithin}
use Rattle.listing.proofs.Only.{listing_page}

module _ (Within : ℕ → Type 0) (s marks : List ℕ) (floor : ℤ) (low high : ℕ) (old : List ℕ) {written left : ℕ}
    {bytes : List ℕ} (p : ListingWithin Within s marks floor low high old (listed written left, bytes)) where
  pub listing_few : written + left ≤ 16777216
  listing_few =
      let n = listing_page Within s marks floor low high old p in
      paged_few n.0.few n.1

  pub listing_room : 16 * written ≤ length bytes
  listing_room = paged_room (listing_page Within s marks floor low high old p).1
