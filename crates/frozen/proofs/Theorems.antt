-- Demands 2 and 3 with a change set. Where 1 to 6, 33 and 34 refuse nothing, an outcome with a set is one that the
-- operation's own promise allows of the changed table, and the other way round (`with_back`, `with_there`, changeset's
-- proofs/Withs): so every theorem on an operation is one on it with a set, of the changed table. Here are those of the
-- demands' own sentences: the run found is the heaviest, "none" and "ringed" are given exactly, a claim, a commit and
-- an abort change exactly the marks named, and pages join up to the whole list.
use Prim.Native.Nat.{ℕ, ◌-◌, ◌≤◌}
use mathlib.Core.Path.{◌≡◌}
use mathlib.Core.List.{List}
use mathlib.Core.Logic.{◌↔◌}
use lib.IntN.{ℤ}
use lib.ListN.{length}
use Rattle.std.specs.Prelude.{Ok}
use Rattle.arrays.specs.At.{at}
use Rattle.table.specs.Header.{nodes_of, bound_of}
use Rattle.table.proofs.Accepted.{Headed, GoodTable}
use Rattle.net.specs.Net.{first_end, second_end}
use Rattle.net.specs.Graph.{Ring}
use Rattle.tree.specs.Accept.{Accepts, acceptance}
use Rattle.accept.specs.Accept.{accept_refusal}
use Rattle.accept.proofs.Theorems.{ring_exactly}
use Rattle.marks.specs.Mark.{free, spend, HeldBy, RunNumber}
use Rattle.changes.specs.Change.{change_refusal, Changes}
use Rattle.changes.specs.Claim.{Taken}
use Rattle.changes.proofs.Theorems as changes
use Rattle.heaviest.specs.Heaviest.{heaviest_refusal, Heaviest, HeaviestAnswer, between}
use Rattle.heaviest.proofs.Demand2.{InReach, AtBound, found_best, sixteen_exactly, exact_best, twenty_one_exactly}
use Rattle.pages.specs.Listing.{Entry, entry}
use Rattle.paging.specs.Paging.{listing_refusal}
use Rattle.paging.proofs.Demand3.{JoinsUp, demand_3}
use Rattle.ground.specs.Considered.{Considered}
use Rattle.listing.proofs.Demand3 as listing
use Rattle.window.specs.Window.{Window, Proper}
use Rattle.window.specs.List.{AsMany}
use Rattle.window.proofs.Demand3 as window
use Rattle.changeset.specs.Entries.{Formed, RowsRise}
use Rattle.changeset.specs.Changed.{WrittenIn}
use Rattle.changeset.proofs.Withs.{with_there, with_back}
use Rattle.frozen.specs.Calls.{
  AcceptWith,
  HeaviestWith,
  HeaviestExactWith,
  ClaimsWith,
  CommitsWith,
  AbortsWith,
  ListingWith,
  ListingExactWith,
  WindowListWith,
}

module _ (s c t : List ℕ) (h : Headed s) (f : Formed c) (g : RowsRise (nodes_of s) c) (d : WrittenIn s c t) where
  -- RINGED EXACTLY, of a changed table with good rows
  pub ring_exactly_with : GoodTable t
      → ((r : ℕ) × (k : ℕ) × AcceptWith s c (accept_refusal 11 r k))
      ↔ Ring (first_end t) (second_end t) (nodes_of t - 1)
  ring_exactly_with good =
      let e = ring_exactly t good in (
        λ p. e.0 (p.0, p.1, with_back accept_refusal s c h f g t d p.2),
        λ r. let p = e.1 r in (p.0, p.1, with_there accept_refusal s c h f g t d p.2),
      )

  module _ (marks : List ℕ) where
    -- THE RUN FOUND IS THE HEAVIEST
    pub found_best_with : {a b l : ℕ} {w : ℤ} → HeaviestWith s c marks (between a b l w)
        → Heaviest (InReach t marks) (entry a b l w)
    found_best_with p = found_best t marks (with_back heaviest_refusal s c h f g t d p)

    pub exact_best_with : {a b l : ℕ} {w : ℤ} → HeaviestExactWith s c marks (between a b l w)
        → Heaviest (AtBound t marks) (entry a b l w)
    exact_best_with p = exact_best t marks (with_back heaviest_refusal s c h f g t d p)

    module _ (a : Accepts t (acceptance (nodes_of t) (bound_of t))) (m : length marks ≡ nodes_of t - 1) where
      -- NONE EXACTLY
      pub sixteen_exactly_with : (o : HeaviestAnswer) → HeaviestWith s c marks o
          → (o ≡ heaviest_refusal 16 0 0) ↔ ((e : Entry) → ¬ InReach t marks e)
      sixteen_exactly_with o p = sixteen_exactly t marks a m o (with_back heaviest_refusal s c h f g t d p)

      pub twenty_one_exactly_with : (o : HeaviestAnswer) → HeaviestExactWith s c marks o
          → (o ≡ heaviest_refusal 21 0 0) ↔ ((e : Entry) → ¬ AtBound t marks e)
      twenty_one_exactly_with o p = twenty_one_exactly t marks a m o (with_back heaviest_refusal s c h f g t d p)

      -- DEMAND 3: pages join up to the whole list
      pub listing_with_joins_up : (floor : ℤ)
          → JoinsUp (ListingWith s c marks floor) (Considered (λ l. l ≤ bound_of t) t marks (nodes_of t) floor)
      listing_with_joins_up floor =
          demand_3
          (record {
            gives = λ {low} {high} {written} {left} {old} p.
                (listing.listing_lists (λ l. l ≤ bound_of t) t marks floor).gives
                (with_back (listing_refusal old) s c h f g t d p);
          })
          (λ _ _ old _ _ e p.
          listing.answered (λ l. l ≤ bound_of t) t marks floor a m e
          (with_back (listing_refusal old) s c h f g t d p))

      pub listing_exact_with_joins_up : (floor : ℤ)
          → JoinsUp (ListingExactWith s c marks floor) (Considered (λ l. l ≡ bound_of t) t marks (nodes_of t) floor)
      listing_exact_with_joins_up floor =
          demand_3
          (record {
            gives = λ {low} {high} {written} {left} {old} p.
                (listing.listing_lists (λ l. l ≡ bound_of t) t marks floor).gives
                (with_back (listing_refusal old) s c h f g t d p);
          })
          (λ _ _ old _ _ e p.
          listing.answered (λ l. l ≡ bound_of t) t marks floor a m e
          (with_back (listing_refusal old) s c h f g t d p))

      pub window_list_with_joins_up : (w : Window) → Proper w
          → JoinsUp (WindowListWith s c marks w) (AsMany t marks (nodes_of t) w)
      window_list_with_joins_up w o =
          demand_3
          (record {
            gives = λ {low} {high} {written} {left} {old} p.
                (window.window_lists t marks w).gives (with_back (listing_refusal old) s c h f g t d p);
          })
          (λ _ _ old _ _ e p. window.answered t marks w a m o e (with_back (listing_refusal old) s c h f g t d p))

  -- EXACTLY THE MARKS NAMED
  module _ (before : List ℕ) {after : List ℕ} {run k : ℕ} where
    pub claimed_with : {a b : ℕ} → ClaimsWith s c before run a b (Ok k, after)
        → RunNumber run × Changes (Taken t before (nodes_of t) a b) run before after k
    claimed_with p = changes.claimed t before (with_back (change_refusal before) s c h f g t d p)

    pub committed_with : CommitsWith s c before run (Ok k, after)
        → RunNumber run × Changes (λ r. HeldBy run (at before r)) (spend run) before after k
    committed_with p = changes.committed t before (with_back (change_refusal before) s c h f g t d p)

    pub aborted_with : AbortsWith s c before run (Ok k, after)
        → RunNumber run × Changes (λ r. HeldBy run (at before r)) free before after k
    aborted_with p = changes.aborted t before (with_back (change_refusal before) s c h f g t d p)
