-- OUR OWN LISTS ARE A YES (Req 11). Vet says yes of a list exactly if its rows are, in some order, those that calls of
-- the listing gave for the same table, marks and floor; so the pages of these calls are a yes, joined in any order. For
-- what the calls gave is the listing (demand 3), each page is whole rows, and where a call gave rows the table is
-- accepted and has a mark for each branch.
use Prim.Native.Nat.{ℕ, ◌-◌, ◌*◌, ◌%◌, ◌≤◌}
use mathlib.Core.Path.{◌≡◌, refl, sym, ◌∙◌}
use mathlib.Core.Logic.{◌↔◌}
use mathlib.Core.List.{List, append-nil, flatten}
use native.Mathlib.Omega.{arith}
use lib.IntN.{ℤ}
use lib.ListN.{length, take}
use lib.Seq.{length-take-le}
use Rattle.std.specs.Prelude.{Ok, Err}
use Rattle.arrays.specs.Members.{In, at, past}
use Rattle.arrays.proofs.Members.{in_one}
use Rattle.table.specs.Header.{nodes_of, bound_of}
use Rattle.table.proofs.Refusals as refusals
use Rattle.tree.specs.Accept.{Accepts, Acceptance, acceptance}
use Rattle.tree.proofs.Begins.{begins_map, begins_rest}
use Rattle.pages.specs.Listing.{Entry}
use Rattle.pages.specs.Bytes.{rows}
use Rattle.paging.specs.Asks.{Asks, last, next, pages_of}
use Rattle.paging.specs.Paging.{listing_refusal, Listed, listed}
use Rattle.paging.proofs.Demand3.{there_is, join_up}
use Rattle.paging.proofs.Only.{not_refused}
use Rattle.vetting.specs.declared.Verdict.TheVariants.{Yes}
use Rattle.listing.specs.Listing.{ListingOf}
use Rattle.listing.proofs.Demand3.{listing_lists}
use Rattle.listing.proofs.Few.{listing_room}
use Rattle.vetting.specs.Shuffled.{Shuffled}
use Rattle.vet.specs.Vet.{VetOf}
use Rattle.vet.proofs.Theorems.{yes_exactly, any_order_yes}
use Rattle.relaxing.specs.Relaxed.{Gave, rows_in}
use Rattle.relaxing.proofs.Floors.{asked_rows}

module _ (s marks : List ℕ) (floor : ℤ) where
  -- where a call gave rows the table is accepted, and has a mark for each branch
  record Accepting : Type 0 where
    accepted : Accepts s (acceptance (nodes_of s) (bound_of s))
    marked : length marks ≡ nodes_of s - 1

  call_accepting : {low high written left : ℕ} {old bytes : List ℕ}
      → ListingOf s marks floor low high old (listed written left, bytes) → Accepting
  call_accepting {old = old} p =
      let a : Accepts s (acceptance (nodes_of s) (bound_of s)) = begins_map seen (listing_refusal old) s
      (λ _ _. refl) p in
      record {
        accepted = a;
        marked = (refusals.past (not_refused old 13 0 0) (begins_rest (listing_refusal old) s a p)).0;
      }
    where
      seen : Listed × List ℕ → Acceptance
      seen (Ok o, bytes) = acceptance (nodes_of s) (bound_of s)
      seen (Err why, bytes) = Err why

  accepting : {low high : ℕ} {joined : List ℕ} → Asks (ListingOf s marks floor) low high joined → Accepting
  accepting (last h p) = call_accepting p
  accepting (next h p l r) = call_accepting p

  -- the pages joined are what was given, and each is whole rows
  pages_join : {low high : ℕ} {joined : List ℕ} (a : Asks (ListingOf s marks floor) low high joined)
      → joined ≡ flatten (pages_of a)
  unfolding flatten
  pages_join (last h p) = sym (append-nil _)
  pages_join (next h p l r) = cc (pages_join r)

  page_whole : {low high written left : ℕ} {old bytes : List ℕ}
      → ListingOf s marks floor low high old (listed written left, bytes) → length (take (16 * written) bytes) % 16 ≡ 0
  page_whole {low} {high} {written} {left} {old} {bytes} p =
      omega (
        arith,
        length-take-le (16 * written) bytes (listing_room (λ l. l ≤ bound_of s) s marks floor low high old p),
      )

  pages_whole : {low high : ℕ} {joined : List ℕ} (a : Asks (ListingOf s marks floor) low high joined)
      → (page : List ℕ) → In page (pages_of a) → length page % 16 ≡ 0
  pages_whole (last h p) page i = rw (in_one i) (page_whole p)
  pages_whole (next h p l r) page (at e) = rw e (page_whole p)
  pages_whole (next h p l r) page (past i) = pages_whole r page i

  module _ {joined : List ℕ} (a : Gave s marks floor joined) where
    -- the rows given, in some order, and nothing else
    pub yes_exactly_given : (list : List ℕ)
        → VetOf s marks floor list (Ok Yes) ↔ ((k : List Entry) × Shuffled (rows_in joined) k × (list ≡ rows k))
    yes_exactly_given list =
        let t = accepting a in
        let w = there_is (listing_lists (λ l. l ≤ bound_of s) s marks floor) a in
        rw (asked_rows (λ l. l ≤ bound_of s) s marks floor a w.1)
        (yes_exactly s marks floor t.accepted t.marked w.1 list)

    -- our own pages, in any order
    pub own_pages_yes : (others : List (List ℕ)) → Shuffled (pages_of a) others
        → VetOf s marks floor (flatten others) (Ok Yes)
    own_pages_yes others h =
        let t = accepting a in
        let lists = listing_lists (λ l. l ≤ bound_of s) s marks floor in
        let w = there_is lists a in
        any_order_yes s marks floor t.accepted t.marked w.1 (pages_of a) others
        (sym (join_up lists a w.1) ∙ pages_join a) (pages_whole a) h
