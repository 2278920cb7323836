-- DEMAND 3 of the operation window_list: for one table, one set of marks and one window, calls from (0, 0) until none
-- is left, each lending 16 bytes or more, each going on after the last row given, write the whole list: every pair in
-- the window that has the greatest branch count of all, lower node first, each once, in order. It is the demand of
-- every operation that lists (paging's proofs/Demand3, which has what else holds of such calls: `add_up`, `fewer_left`,
-- `writes_some`, `loses_nothing`, by `window_lists`).
use Prim.Native.Nat.{ℕ, ◌-◌, ◌≤◌}
use mathlib.Core.Path.{◌≡◌}
use mathlib.Core.List.{List}
use lib.ListN.{length}
use Rattle.table.specs.Header.{nodes_of, bound_of}
use Rattle.table.proofs.Refusals.{settled}
use Rattle.net.specs.work.Net.{Net}
use Rattle.tree.specs.Accept.{Accepts, acceptance}
use Rattle.tree.specs.declared.Refusal.{Refusal}
use Rattle.tree.proofs.Begins.{begins_rest}
use Rattle.pages.specs.Listing.{Entry}
use Rattle.pages.specs.work.RowFits.{RowFits}
use Rattle.pages.proofs.Qualifying.{passes_map}
use Rattle.paging.specs.Paging.{listing_refusal}
use Rattle.std.specs.Prelude.{Err}
use Rattle.paging.proofs.Demand3.{Lists, JoinsUp, demand_3}
use Rattle.ground.specs.PathOf.{PathOf}
use Rattle.ground.proofs.Bounds.{passes_fits}
use Rattle.window.specs.Window.{Window, Proper}
use Rattle.window.specs.List.{MostPath, AsMany, WindowListOf}
use Rattle.window.proofs.Only.{window_list_page}

module _ (s marks : List ℕ) (w : Window) where
  row_fits : Net s (nodes_of s) → (e : Entry) → AsMany s marks (nodes_of s) w e → RowFits e
  row_fits net e p =
      passes_fits s marks net
      (passes_map {Value' = PathOf s marks (nodes_of s)} {Within' = λ l. Unit {0}} {Heavy' = λ x. Unit {0}}
      (λ m. m.path) (λ q. q) (λ q. q) p)

  -- It is an operation that lists.
  pub window_lists : Lists (WindowListOf s marks w) (MostPath s marks (nodes_of s) w) (λ l. Unit {0}) (λ x. Unit {0})
      (nodes_of s)
  window_lists = record {
    gives = λ p.
        let n = window_list_page s marks w _ _ _ p in
        record { few = n.0.few; page = n.1; fits = row_fits n.0 };
  }

  -- FROM ITS OWN PREMISE: an accepted table, a mark for each branch, a window whose limits are in order, calls that
  -- each lend room for a row.
  module _ (a : Accepts s (acceptance (nodes_of s) (bound_of s))) (m : length marks ≡ nodes_of s - 1) (o : Proper w)
    where
      -- No such call is refused.
      pub answered : {low high : ℕ} {old bytes : List ℕ} {why : Refusal} → 16 ≤ length old
          → WindowListOf s marks w low high old (Err why, bytes) → ⊥
      answered {old = old} h p = settled h (settled o (settled m (begins_rest (listing_refusal old) s a p)))

      pub window_list_joins_up : JoinsUp (WindowListOf s marks w) (AsMany s marks (nodes_of s) w)
      window_list_joins_up = demand_3 window_lists (λ _ _ _ _ _ h p. answered h p)
