-- The operations listing and listing_exact: refusals 1 to 11, then 13 and 17; then the page. A call leaves an answer
-- and the lent bytes.
use Rattle.std.specs.Prelude.{ℕ, ◌-◌, ◌≤◌, ◌≡◌, List, ℤ, length}
use Rattle.table.specs.Refuse.{Unless}
use Rattle.table.specs.Header.{nodes_of, bound_of}
use Rattle.tree.specs.Accept.{Begins}
use Rattle.paging.specs.Paging.{listing_refusal, GivesPage, Listed}
use Rattle.ground.specs.Considered.{Considered}

-- 13 and 17, then the page, of a net of n nodes under any length test
abbrev pub GoesOn : (ℕ → Type 0) → List ℕ → ℕ → List ℕ → ℤ → ℕ → ℕ → List ℕ → Listed × List ℕ → Type 0
GoesOn Within s n marks floor low high old =
    Unless (Listed × List ℕ) (listing_refusal old 13 0 0) (length marks ≡ n - 1)
    (Unless (Listed × List ℕ) (listing_refusal old 17 0 0) (16 ≤ length old)
    (GivesPage (Considered Within s marks n floor) low high old))

-- the whole promise, under any length test; the listing's own: at most B; and listing_exact's: exactly B
abbrev pub ListingWithin : (ℕ → Type 0) → List ℕ → List ℕ → ℤ → ℕ → ℕ → List ℕ → Listed × List ℕ → Type 0
ListingWithin Within s marks floor low high old =
    Begins (Listed × List ℕ) (listing_refusal old) s (GoesOn Within s (nodes_of s) marks floor low high old)

abbrev pub ListingOf : List ℕ → List ℕ → ℤ → ℕ → ℕ → List ℕ → Listed × List ℕ → Type 0
ListingOf s = ListingWithin (λ l. l ≤ bound_of s) s

abbrev pub ListingExactOf : List ℕ → List ℕ → ℤ → ℕ → ℕ → List ℕ → Listed × List ℕ → Type 0
ListingExactOf s = ListingWithin (λ l. l ≡ bound_of s) s
