-- HOLDERS NEVER SHOW, for window and window_list: two sets of marks of one number, free at the same places, give equal
-- outcomes, whoever the holders are.
use Prim.Native.Nat.{ℕ}
use mathlib.Core.Path.{◌≡◌}
use mathlib.Core.List.{List}
use lib.ListN.{length}
use Rattle.table.specs.Header.{nodes_of}
use Rattle.table.proofs.Refusals.{unless_map, unless_alike}
use Rattle.tree.proofs.Begins.{begins_alike}
use Rattle.marks.proofs.Weights.{Alike}
use Rattle.pages.specs.Listing.{Entry}
use Rattle.pages.proofs.Qualifying.{passes_map}
use Rattle.paging.specs.Paging.{listing_refusal, Listed}
use Rattle.paging.proofs.Alike.{gives_iff}
use Rattle.ground.proofs.Alike.{value_alike, path_alike, flip}
use Rattle.window.specs.Window.{WindowAnswer, Window, InWindow, window_refusal, GivesMost, Picks, WindowOf}
use Rattle.window.specs.List.{AsMany, ListsMost, WindowListOf}
use Rattle.std.specs.Prelude.{Ok, Err}
use Rattle.window.proofs.Bettering.{most_iff}
use Rattle.window.proofs.Only.{picks_only, lists_only}

module _ (s marks marks' : List ℕ) (h : Alike marks marks') (w : Window) (n : ℕ) where
  inside_alike : (e : Entry) → InWindow s marks n w e → InWindow s marks' n w e
  inside_alike e = passes_map (λ p. value_alike s marks marks' h n p) (λ q. q) (λ q. q)

-- the same pairs are in the list
many_alike : (s marks marks' : List ℕ) → Alike marks marks' → (w : Window) (n : ℕ) (e : Entry) → AsMany s marks n w e
    → AsMany s marks' n w e
many_alike s marks marks' h w n e =
    passes_map
    (λ p. record {
      path = path_alike s marks marks' h n p.path;
      count = p.count;
      inside = inside_alike s marks marks' h w n _ p.inside;
      greatest = λ f q. p.greatest f (inside_alike s marks' marks (flip marks marks' h) w n f q);
    })
    (λ q. q) (λ q. q)

gives_alike : {P Q : Entry → Type 0} → ((e : Entry) → P e → Q e) → ((e : Entry) → Q e → P e)
    → (x : WindowAnswer) → GivesMost P x → GivesMost Q x
gives_alike f g (Ok o) p = most_iff f g p
gives_alike f g (Err why) p = p

module _ (s marks marks' : List ℕ) (h : Alike marks marks') (e : length marks ≡ length marks') (w : Window) where
  picks_alike : {n : ℕ} {x : WindowAnswer} → Picks s n marks w x → Picks s n marks' w x
  picks_alike {n} {x} p =
      let f : (r : Entry) → InWindow s marks n w r → InWindow s marks' n w r = inside_alike s marks marks' h w n in
      let g : (r : Entry) → InWindow s marks' n w r → InWindow s marks n w r = inside_alike s marks' marks
      (flip marks marks' h) w n in
      rw (← e)
      (unless_map (λ o. o)
      (λ _. unless_map (λ o. o)
      (λ _. unless_alike (λ t. (t.0, f t.0 t.1)) (λ t. (t.0, g t.0 t.1)) (gives_alike f g x))) p)

  pub window_holders_never_show : (x y : WindowAnswer) → WindowOf s marks w x → WindowOf s marks' w y → x ≡ y
  window_holders_never_show =
      begins_alike window_refusal s (λ net x y p q. picks_only s marks' w net x y (picks_alike p) q)

  lists_alike : (n low high : ℕ) (old : List ℕ) {x : Listed × List ℕ} → ListsMost s n marks w low high old x
      → ListsMost s n marks' w low high old x
  lists_alike n low high old {x} p =
      rw (← e)
      (unless_map (λ o. o)
      (λ _. unless_map (λ o. o)
      (λ _. unless_map (λ o. o)
      (λ _. gives_iff (many_alike s marks marks' h w n) (many_alike s marks' marks (flip marks marks' h) w n) low high
      old x))) p)

  pub window_list_holders_never_show : (low high : ℕ) (old : List ℕ) (x y : Listed × List ℕ)
      → WindowListOf s marks w low high old x → WindowListOf s marks' w low high old y → x ≡ y
  window_list_holders_never_show low high old =
      begins_alike (listing_refusal old) s
      (λ _ x y p q. lists_only s (nodes_of s) marks' w low high old x y (lists_alike (nodes_of s) low high old p) q)
