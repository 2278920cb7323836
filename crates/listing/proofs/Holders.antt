-- HOLDERS NEVER SHOW: two sets of marks of one number, free at the same places, give equal outcomes of the listing,
-- whoever the holders are.
use Prim.Native.Nat.{ℕ}
use mathlib.Core.Path.{◌≡◌}
use mathlib.Core.List.{List}
use lib.IntN.{ℤ}
use lib.ListN.{length}
use Rattle.table.specs.Header.{nodes_of}
use Rattle.table.proofs.Refusals.{unless_map}
use Rattle.tree.proofs.Begins.{begins_alike}
use Rattle.marks.proofs.Weights.{Alike}
use Rattle.paging.specs.Paging.{Listed, listing_refusal}
use Rattle.paging.proofs.Alike.{gives_iff}
use Rattle.ground.proofs.Alike.{passes_alike, flip}
use Rattle.listing.specs.Listing.{GoesOn, ListingWithin}
use Rattle.listing.proofs.Only.{goes_only}

goes_alike : (s marks marks' : List ℕ) → Alike marks marks' → length marks ≡ length marks'
    → (Within : ℕ → Type 0) (floor : ℤ) (n low high : ℕ) (old : List ℕ) {x : Listed × List ℕ}
    → GoesOn Within s n marks floor low high old x → GoesOn Within s n marks' floor low high old x
goes_alike s marks marks' h e Within floor n low high old {x = x} p =
    rw (← e)
    (unless_map (λ o. o)
    (λ _. unless_map (λ o. o)
    (λ _. gives_iff (passes_alike s marks marks' h n) (passes_alike s marks' marks (flip marks marks' h) n) low high old
    x))
    p)

pub holders_never_show : (Within : ℕ → Type 0) (s marks marks' : List ℕ) → Alike marks marks'
    → length marks ≡ length marks' → (floor : ℤ) (low high : ℕ) (old : List ℕ) (x y : Listed × List ℕ)
    → ListingWithin Within s marks floor low high old x → ListingWithin Within s marks' floor low high old y → x ≡ y
holders_never_show Within s marks marks' h e floor low high old =
    begins_alike (listing_refusal old) s
    (λ _ x y p q. goes_only Within s (nodes_of s) marks' floor low high old x y
    (goes_alike s marks marks' h e Within floor (nodes_of s) low high old p) q)
