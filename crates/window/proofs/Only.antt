-- The promises of window and of window_list allow one outcome. Of two best pairs neither has more branches and neither
-- is earlier, so they are one pair, which has one path. A list's outcome that is no refusal is a page of an accepted
-- net.
use Prim.Native.Nat.{ℕ}
use mathlib.Core.Path.{◌≡◌, sym}
use mathlib.Core.List.{List}
use native.Mathlib.Omega.{arith}
use Rattle.table.specs.Refuse.{Only}
use Rattle.table.specs.Header.{nodes_of}
use Rattle.table.proofs.Refusals.{unless_only, past}
use Rattle.net.specs.Net.{first_end, second_end}
use Rattle.net.specs.work.Net.{Net}
use Rattle.net.proofs.Values.{weight_only}
use Rattle.tree.proofs.Begins.{begins_only, begins_net_only, begins_past}
use Rattle.pages.specs.Listing.{entry}
use Rattle.pages.specs.Paged.{Paged}
use Rattle.pages.proofs.Order.{one_pair}
use Rattle.paging.specs.Paging.{listing_refusal}
use Rattle.paging.specs.Paging.{listed}
use Rattle.paging.proofs.Only.{gives_only, not_refused}
use Rattle.window.specs.Window.{
  Window,
  BranchCount,
  InWindow,
  MostOf,
  window_refusal,
  GivesMost,
  Picks,
  WindowOf,
  given_most,
}
use Rattle.window.specs.List.{AsMany, ListsMost, WindowListOf}
use Rattle.std.specs.Prelude.{Ok, Err}

module _ (s marks : List ℕ) (w : Window) {n : ℕ} (net : Net s n) where
  pub most_only : Only (MostOf (InWindow s marks n w))
  most_only e f p q =
      let l : e.length ≡ f.length = omega (arith, p.most f q.one, q.most e p.one) in
      let c = one_pair e f (q.earliest e p.one l) (p.earliest f q.one (sym l)) in
      let o : BranchCount s marks n e.low e.high f.length f.weight = rw (c.0, c.1) q.one.path in
      let x : e.weight ≡ f.weight = weight_only (first_end s) (second_end s) net.forest p.one.path o in
      λ i. record { low = c.0 i; high = c.1 i; length = l i; weight = x i }

  gives_most_only : Only (GivesMost (InWindow s marks n w))
  gives_most_only (Ok x) (Ok y) p q =
      let o = most_only (entry x.low x.high x.count x.weight) (entry y.low y.high y.count y.weight) p q in
      λ i. given_most (o i).low (o i).high (o i).length (o i).weight
  gives_most_only (Ok x) (Err why) p q = absurd q
  gives_most_only (Err why) y p q = absurd p

  pub picks_only : Only (Picks s n marks w)
  picks_only = unless_only (unless_only (unless_only gives_most_only))

pub window_only : (s marks : List ℕ) (w : Window) → Only (WindowOf s marks w)
window_only s marks w = begins_net_only window_refusal s (λ net. picks_only s marks w net)

pub lists_only : (s : List ℕ) (n : ℕ) (marks : List ℕ) (w : Window) (low high : ℕ) (old : List ℕ)
    → Only (ListsMost s n marks w low high old)
lists_only s n marks w low high old = unless_only (unless_only (unless_only (gives_only _ low high old)))

pub window_list_only : (s marks : List ℕ) (w : Window) (low high : ℕ) (old : List ℕ)
    → Only (WindowListOf s marks w low high old)
window_list_only s marks w low high old =
    begins_only (listing_refusal old) s (lists_only s (nodes_of s) marks w low high old)

-- what a call that is not refused gives
pub window_list_page : (s marks : List ℕ) (w : Window) (low high : ℕ) (old : List ℕ) {written left : ℕ}
    {bytes : List ℕ} → WindowListOf s marks w low high old (listed written left, bytes)
    → Net s (nodes_of s) × Paged (AsMany s marks (nodes_of s) w) low high old written left bytes
window_list_page s marks w low high old p =
    let n = begins_past (listing_refusal old) s (not_refused old) p in (
      n.0,
      (past (not_refused old 17 0 0) (past (not_refused old 30 0 0) (past (not_refused old 13 0 0) n.1).1).1).1,
    )
