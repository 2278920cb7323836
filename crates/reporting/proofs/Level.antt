-- The pairs at or above the heaviest weight are those of that weight, since none weighs more: so the listing with the
-- heaviest run's weight for its floor is what the report lists.
use Prim.Native.Nat.{ℕ, ◌≤◌}
use mathlib.Core.Path.{◌≡◌}
use mathlib.Core.List.{List}
use lib.Signed.{≤ℤ_refl}
use Rattle.table.specs.Header.{nodes_of, bound_of}
use Rattle.pages.specs.Listing.{Entry, Listing}
use Rattle.pages.specs.Passes.{Passes}
use Rattle.pages.proofs.Listings.{listing_iff}
use Rattle.pages.proofs.Qualifying.{passes_map}
use Rattle.ground.specs.PathOf.{PathOf}
use Rattle.heaviest.specs.Heaviest.{Heaviest}
use Rattle.heaviest.proofs.Only.{level}
use Rattle.heaviest.proofs.Demand2.{InReach}
use Rattle.reporting.specs.work.Asked.{Counted}

module _ (s marks : List ℕ) (e : Entry) (best : Heaviest (InReach s marks) e) where
  Same : Entry → Type 0
  Same = Passes (PathOf s marks (nodes_of s)) (λ l. l ≤ bound_of s) (λ w. w ≡ e.weight) (nodes_of s)

  only_level : (f : Entry) → Counted s marks e.weight f → Same f
  unfolding Same
  only_level f p =
      passes_map (λ q. q) (λ q. q)
      (level f.weight e.weight (best.best f (passes_map (λ q. q) (λ q. q) (λ _. tt) p)).weight) p

  level_too : (f : Entry) → Same f → Counted s marks e.weight f
  unfolding Same
  level_too f p = passes_map (λ q. q) (λ q. q) (λ h. rw h (≤ℤ_refl e.weight)) p

  pub same_weight : {l : List Entry} → Listing (Counted s marks e.weight) l
      → Listing (Passes (PathOf s marks (nodes_of s)) (λ l. l ≤ bound_of s) (λ w. w ≡ e.weight) (nodes_of s)) l
  unfolding Same
  same_weight w = listing_iff only_level level_too w
