-- DEMAND 3 of the operations listing and listing_exact: for one table, one set of marks and any floor, calls from (0,
-- 0) until none is left, each lending 16 bytes or more, each going on after the last row given, write the whole
-- listing: every qualifying pair, lower node first, each once, in order. It is the demand of every operation that
-- lists, of this one under any length test; both modes cite it at the end, the listing with "at most B",
-- listing_exact with "exactly B".
use Prim.Native.Nat.{ℕ, ◌-◌, ◌≤◌}
use mathlib.Core.Path.{◌≡◌}
use mathlib.Core.List.{List}
use lib.IntN.{ℤ}
use lib.ListN.{length}
use lib.Signed.{◌≤ℤ◌}
use Rattle.table.specs.Header.{nodes_of, bound_of}
use Rattle.table.proofs.Refusals.{settled}
use Rattle.tree.specs.Accept.{Accepts, acceptance}
use Rattle.tree.specs.declared.Refusal.{Refusal}
use Rattle.tree.proofs.Begins.{begins_rest}
use Rattle.paging.specs.Paging.{listing_refusal}
use Rattle.std.specs.Prelude.{Err}
use Rattle.paging.proofs.Demand3.{Lists, JoinsUp, demand_3}
use Rattle.ground.specs.Considered.{Considered}
use Rattle.ground.specs.PathOf.{PathOf}
use Rattle.ground.proofs.Bounds.{passes_fits}
use Rattle.listing.specs.Listing.{ListingWithin, ListingOf, ListingExactOf}
use Rattle.listing.proofs.Only.{listing_page}

module _ (Within : ℕ → Type 0) (s marks : List ℕ) (floor : ℤ) where
  -- It is an operation that lists.
  pub listing_lists : Lists (ListingWithin Within s marks floor) (PathOf s marks (nodes_of s)) Within (λ w. floor ≤ℤ w)
      (nodes_of s)
  listing_lists = record {
    gives = λ p.
        let n = listing_page Within s marks floor _ _ _ p in
        record { few = n.0.few; page = n.1; fits = λ e. passes_fits s marks n.0 };
  }

  -- FROM ITS OWN PREMISE: an accepted table, a mark for each branch, any floor, calls that each lend room for a row.
  module _ (a : Accepts s (acceptance (nodes_of s) (bound_of s))) (m : length marks ≡ nodes_of s - 1) where
    -- No such call is refused.
    pub answered : {low high : ℕ} {old bytes : List ℕ} {why : Refusal} → 16 ≤ length old
        → ListingWithin Within s marks floor low high old (Err why, bytes) → ⊥
    answered {old = old} h p = settled h (settled m (begins_rest (listing_refusal old) s a p))

    joins_up : JoinsUp (ListingWithin Within s marks floor) (Considered Within s marks (nodes_of s) floor)
    joins_up = demand_3 listing_lists (λ _ _ _ _ _ h p. answered h p)

-- BOTH MODES: of an accepted table with a mark for each branch, the pairs within the bound, and those of exactly its
-- length.
module _ (s marks : List ℕ) (floor : ℤ)
    (a : Accepts s (acceptance (nodes_of s) (bound_of s))) (m : length marks ≡ nodes_of s - 1) where
  pub listing_joins_up : JoinsUp (ListingOf s marks floor) (Considered (λ l. l ≤ bound_of s) s marks (nodes_of s) floor)
  listing_joins_up = joins_up (λ l. l ≤ bound_of s) s marks floor a m

  pub listing_exact_joins_up : JoinsUp (ListingExactOf s marks floor)
      (Considered (λ l. l ≡ bound_of s) s marks (nodes_of s) floor)
  listing_exact_joins_up = joins_up (λ l. l ≡ bound_of s) s marks floor a m
