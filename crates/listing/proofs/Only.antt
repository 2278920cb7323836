-- The listing's promise allows one outcome, under any length test; and one that is no refusal is a page of an accepted
-- net.
use Prim.Native.Nat.{ℕ}
use mathlib.Core.List.{List}
use lib.IntN.{ℤ}
use Rattle.table.specs.Refuse.{Only}
use Rattle.table.specs.Header.{nodes_of}
use Rattle.table.proofs.Refusals.{unless_only, past}
use Rattle.net.specs.work.Net.{Net}
use Rattle.tree.proofs.Begins.{begins_only, begins_past}
use Rattle.pages.specs.Passes.{Qualifies}
use Rattle.pages.specs.Paged.{Paged}
use Rattle.paging.specs.Paging.{listing_refusal, listed}
use Rattle.paging.proofs.Only.{gives_only, not_refused}
use Rattle.ground.specs.PathOf.{PathOf}
use Rattle.listing.specs.Listing.{GoesOn, ListingWithin, ListingOf, ListingExactOf}

pub goes_only : (Within : ℕ → Type 0) (s : List ℕ) (n : ℕ) (marks : List ℕ) (floor : ℤ) (low high : ℕ) (old : List ℕ)
    → Only (GoesOn Within s n marks floor low high old)
goes_only Within s n marks floor low high old = unless_only (unless_only (gives_only _ low high old))

pub listing_within_only : (Within : ℕ → Type 0) (s marks : List ℕ) (floor : ℤ) (low high : ℕ) (old : List ℕ)
    → Only (ListingWithin Within s marks floor low high old)
listing_within_only Within s marks floor low high old =
    begins_only (listing_refusal old) s (goes_only Within s (nodes_of s) marks floor low high old)

pub listing_only : (s marks : List ℕ) (floor : ℤ) (low high : ℕ) (old : List ℕ)
    → Only (ListingOf s marks floor low high old)
listing_only s = listing_within_only _ s

pub listing_exact_only : (s marks : List ℕ) (floor : ℤ) (low high : ℕ) (old : List ℕ)
    → Only (ListingExactOf s marks floor low high old)
listing_exact_only s = listing_within_only _ s

-- what a call that is not refused gives
pub listing_page : (Within : ℕ → Type 0) (s marks : List ℕ) (floor : ℤ) (low high : ℕ) (old : List ℕ)
    {written left : ℕ} {bytes : List ℕ} → ListingWithin Within s marks floor low high old (listed written left, bytes)
    → Net s (nodes_of s)
    × Paged (Qualifies (PathOf s marks (nodes_of s)) Within floor (nodes_of s)) low high old written left bytes
listing_page Within s marks floor low high old p =
    let n = begins_past (listing_refusal old) s (not_refused old) p in
    (n.0, (past (not_refused old 17 0 0) (past (not_refused old 13 0 0) n.1).1).1)
