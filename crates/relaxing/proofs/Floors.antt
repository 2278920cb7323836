-- A lower floor, under any length test: what qualifies for the higher floor qualifies for the lower one, so the higher
-- floor's list is a sublist of the lower one's, and so are the rows that calls gave. No refusal asks for the floor.
use Prim.Native.Nat.{ℕ, ◌/◌}
use mathlib.Core.Path.{◌≡◌, refl, ap, ◌∙◌}
use mathlib.Core.List.{List}
use native.Mathlib.Omega.{arith}
use lib.IntN.{ℤ}
use lib.ListN.{length}
use lib.Signed.{◌≤ℤ◌}
use Rattle.std.specs.Prelude.{Ok, Err}
use Rattle.table.specs.Header.{nodes_of}
use Rattle.table.proofs.Refusals.{unless_both}
use Rattle.table.proofs.Order.{≤ℤ-trans}
use Rattle.tree.specs.declared.Refusal.{Refusal}
use Rattle.tree.proofs.Begins.{begins_both}
use Rattle.pages.specs.Listing.{Entry, Listing}
use Rattle.pages.specs.Bytes.{entries}
use Rattle.pages.proofs.Rows.{rows_length}
use Rattle.pages.proofs.Qualifying.{passes_map}
use Rattle.paging.specs.Paging.{listing_refusal, GivesPage, Listed}
use Rattle.paging.specs.Asks.{Asks}
use Rattle.paging.proofs.Demand3.{there_is, join_up, loses_nothing}
use Rattle.ground.specs.Considered.{Considered}
use Rattle.listing.specs.Listing.{ListingWithin}
use Rattle.listing.proofs.Demand3.{listing_lists}
use Rattle.relaxing.specs.Relaxed.{Sublist, rows_in}
use Rattle.relaxing.proofs.Sublists.{listing_sublist}

-- the rows of joined calls are the listing
pub asked_rows : (Within : ℕ → Type 0) (s marks : List ℕ) (floor : ℤ) {joined : List ℕ} {l : List Entry}
    → Asks (ListingWithin Within s marks floor) 0 0 joined → Listing (Considered Within s marks (nodes_of s) floor) l
    → rows_in joined ≡ l
asked_rows Within s marks floor {joined} {l} a w =
    ap (entries joined 0) many ∙ loses_nothing (listing_lists Within s marks floor) a w
  where
    many : length joined / 16 ≡ length l
    many = omega (arith, ap length (join_up (listing_lists Within s marks floor) a w), rows_length l)

qualifies_too : (Within : ℕ → Type 0) (s marks : List ℕ) {floor lower : ℤ} → lower ≤ℤ floor → (e : Entry)
    → Considered Within s marks (nodes_of s) floor e → Considered Within s marks (nodes_of s) lower e
qualifies_too Within s marks h e = passes_map (λ q. q) (λ q. q) (λ k. ≤ℤ-trans h k)

-- each rests on what qualifies alone, so that a wrong premise is refused in each
module _ (Within : ℕ → Type 0) (s marks : List ℕ) {floor lower : ℤ} (h : lower ≤ℤ floor) where
  pub lower_floor_list : {l m : List Entry} → Listing (Considered Within s marks (nodes_of s) floor) l
      → Listing (Considered Within s marks (nodes_of s) lower) m → Sublist l m
  lower_floor_list = listing_sublist (qualifies_too Within s marks h)

  pub lower_floor_rows : {joined joined' : List ℕ} → Asks (ListingWithin Within s marks floor) 0 0 joined
      → Asks (ListingWithin Within s marks lower) 0 0 joined' → Sublist (rows_in joined) (rows_in joined')
  lower_floor_rows a b =
      let l = there_is (listing_lists Within s marks floor) a in
      let m = there_is (listing_lists Within s marks lower) b in
      rw (asked_rows Within s marks floor a l.1, asked_rows Within s marks lower b m.1)
      (listing_sublist (qualifies_too Within s marks h) l.1 m.1)

-- where the first is a refusal, the second is the same
abbrev Refuses : Listed × List ℕ → Type 0
Refuses (Err why, now) = Unit {0}
Refuses (Ok o, now) = ⊥

abbrev RefusedAlike : Listed × List ℕ → Listed × List ℕ → Type 0
RefusedAlike x y = Refuses x → y ≡ x

-- pages are no refusals
pages : (P Q : Entry → Type 0) (low high : ℕ) (old : List ℕ) (x y : Listed × List ℕ) → GivesPage P low high old x
    → GivesPage Q low high old y → RefusedAlike x y
pages P Q low high old (Err why, now) y p q r = absurd p
pages P Q low high old (Ok o, now) y p q r = absurd r

pub floor_refuses_none : (Within : ℕ → Type 0) (s marks : List ℕ) (floor other : ℤ) (low high : ℕ) (old now : List ℕ)
    (why : Refusal) (y : Listed × List ℕ) → ListingWithin Within s marks floor low high old (Err why, now)
    → ListingWithin Within s marks other low high old y → y ≡ (Err why, now)
floor_refuses_none Within s marks floor other low high old now why y p q =
    begins_both RefusedAlike (listing_refusal old) s (λ k r g _. refl)
    (λ _. unless_both RefusedAlike (λ _. refl)
    (λ _. unless_both RefusedAlike (λ _. refl) (λ _. pages _ _ low high old)))
    (Err why, now) y p q tt
