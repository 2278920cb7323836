-- HOLDERS NEVER SHOW, for heaviest: two sets of marks of one number, free at the same places, give equal outcomes,
-- whoever the holders are.
use Prim.Native.Nat.{ℕ}
use mathlib.Core.Path.{◌≡◌}
use mathlib.Core.List.{List}
use lib.ListN.{length}
use Rattle.table.specs.Header.{nodes_of}
use Rattle.table.proofs.Refusals.{unless_map, unless_alike}
use Rattle.tree.proofs.Begins.{begins_alike}
use Rattle.marks.proofs.Weights.{Alike}
use Rattle.pages.specs.Listing.{Entry}
use Rattle.heaviest.specs.Heaviest.{
  HeaviestAnswer,
  heaviest_refusal,
  PairsWithin,
  GivesHeaviest,
  Chooses,
  HeaviestWithin,
}
use Rattle.std.specs.Prelude.{Ok, Err}
use Rattle.ground.proofs.Alike.{passes_alike, flip}
use Rattle.heaviest.proofs.Only.{goes_only}

gives_alike : {P Q : Entry → Type 0} → ((e : Entry) → P e → Q e) → ((e : Entry) → Q e → P e)
    → (x : HeaviestAnswer) → GivesHeaviest P x → GivesHeaviest Q x
gives_alike f g (Ok o) p = record { one = f _ p.one; best = λ e q. p.best e (g e q) }
gives_alike f g (Err why) p = p

module _ (none : ℕ) (Within : ℕ → Type 0) (s marks marks' : List ℕ) (h : Alike marks marks')
    (e : length marks ≡ length marks') where
  goes_alike : {n : ℕ} {x : HeaviestAnswer} → Chooses none Within s n marks x → Chooses none Within s n marks' x
  goes_alike {n} {x} p =
      let f : (r : Entry) → PairsWithin Within s marks n r → PairsWithin Within s marks' n r = passes_alike s marks
      marks' h n in
      let g : (r : Entry) → PairsWithin Within s marks' n r → PairsWithin Within s marks n r = passes_alike s marks'
      marks (flip marks marks' h) n in
      rw (← e)
      (unless_map (λ o. o)
      (λ _. unless_alike (λ t. (t.0, f t.0 t.1)) (λ t. (t.0, g t.0 t.1)) (gives_alike f g x)) p)

  pub heaviest_holders_never_show : (x y : HeaviestAnswer) → HeaviestWithin none Within s marks x
      → HeaviestWithin none Within s marks' y → x ≡ y
  heaviest_holders_never_show =
      begins_alike heaviest_refusal s (λ _ x y p q. goes_only none Within s (nodes_of s) marks' x y (goes_alike p) q)
