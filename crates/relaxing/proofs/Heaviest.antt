-- The heaviest of some pairs beside the heaviest of others. Where each of the first has one among the second that
-- weighs no less, a run found stays found and weighs no less. Where there was none one may turn up; under other marks
-- it does not, since the same pairs are within the length test. 1 to 11 and 13 refuse both alike.
use Prim.Native.Nat.{ℕ}
use mathlib.Core.Path.{◌≡◌, refl, sym}
use mathlib.Core.List.{List}
use lib.ListN.{length}
use lib.Signed.{◌≤ℤ◌, ≤ℤ_refl}
use Rattle.std.specs.Prelude.{Ok, Err}
use Rattle.table.specs.Refuse.{Unless, refused, passed}
use Rattle.table.specs.Header.{nodes_of}
use Rattle.table.proofs.Refusals.{unless_both}
use Rattle.table.proofs.Order.{≤ℤ-trans}
use Rattle.tree.proofs.Begins.{begins_both}
use Rattle.pages.specs.Listing.{Entry, entry}
use Rattle.pages.proofs.Qualifying.{passes_map}
use Rattle.marks.proofs.Weights.{Freer}
use Rattle.ground.proofs.Alike.{under, under_passes, under_keeps}
use Rattle.heaviest.specs.Heaviest.{
  heaviest_refusal,
  PairsWithin,
  GivesHeaviest,
  Chooses,
  HeaviestWithin,
  HeaviestAnswer,
}
use Rattle.relaxing.specs.Relaxed.{NotLess, alike, found, NoWorse, not_less, turned_up}

-- each of P has one of Q that weighs no less
abbrev Covered : (Entry → Type 0) → (Entry → Type 0) → Type 0
Covered P Q = (e : Entry) → P e → (f : Entry) × Q f × (e.weight ≤ℤ f.weight)

abbrev Some : (Entry → Type 0) → Type 0
Some P = (e : Entry) × P e

runs : {P Q : Entry → Type 0} → Covered P Q → (x y : HeaviestAnswer) → GivesHeaviest P x → GivesHeaviest Q y
    → NotLess x y
runs c (Ok o) (Ok best) p q =
    let f = c (entry o.low o.high o.length o.weight) p.one in
    found (≤ℤ-trans f.2 (q.best f.0 f.1).weight)
runs c (Ok o) (Err why) p q = absurd q
runs c (Err why) y p q = absurd p

-- what is asked of two outcomes: a relation that NotLess implies, and what it says where only the second is found
module _ (none : ℕ) (R : HeaviestAnswer → HeaviestAnswer → Type 0) (so : (x y : HeaviestAnswer) → NotLess x y → R x y)
  where
    same : (k r g : ℕ) → R (heaviest_refusal k r g) (heaviest_refusal k r g)
    same k r g = so (heaviest_refusal k r g) (heaviest_refusal k r g) (alike (record { number = k; row = r; ring = g }))

    abbrev Turns : (Entry → Type 0) → (Entry → Type 0) → Type 0
    Turns P Q = ¬ Some P → (y : HeaviestAnswer) → GivesHeaviest Q y → R (heaviest_refusal none 0 0) y

    chosen : {P Q : Entry → Type 0} → Covered P Q → Turns P Q → (x y : HeaviestAnswer)
        → Unless HeaviestAnswer (heaviest_refusal none 0 0) (Some P) (GivesHeaviest P) x
        → Unless HeaviestAnswer (heaviest_refusal none 0 0) (Some Q) (GivesHeaviest Q) y → R x y
    chosen c turns x y (refused m) (refused o) = same none 0 0
    chosen c turns x y (refused m) (passed k q) = turns m y q
    chosen c turns x y (passed k p) (refused o) = let f = c k.0 k.1 in absurd (o (f.0, f.1))
    chosen c turns x y (passed k p) (passed j q) = so x y (runs c x y p q)

    module _ (Within Within' : ℕ → Type 0) (s marks marks' : List ℕ) (many : length marks ≡ length marks')
        (c : Covered (PairsWithin Within s marks (nodes_of s)) (PairsWithin Within' s marks' (nodes_of s)))
        (turns : Turns (PairsWithin Within s marks (nodes_of s)) (PairsWithin Within' s marks' (nodes_of s))) where
      both : (x y : HeaviestAnswer) → Chooses none Within s (nodes_of s) marks x
          → Chooses none Within' s (nodes_of s) marks' y → R x y
      both x y p q = unless_both R (same 13 0 0) (λ _. chosen c turns) x y p (rw (sym many) at q)

      compared : (x y : HeaviestAnswer) → HeaviestWithin none Within s marks x
          → HeaviestWithin none Within' s marks' y → R x y
      compared = begins_both R heaviest_refusal s same (λ _. both)

-- a looser length test: a run may turn up
module _ (Within Within' : ℕ → Type 0) (looser : (l : ℕ) → Within l → Within' l) (s marks : List ℕ) where
  covers : Covered (PairsWithin Within s marks (nodes_of s)) (PairsWithin Within' s marks (nodes_of s))
  covers e p = (e, passes_map (λ q. q) (looser e.length) (λ _. tt) p, ≤ℤ_refl e.weight)

  turning_up : (y : HeaviestAnswer) → GivesHeaviest (PairsWithin Within' s marks (nodes_of s)) y
      → NoWorse (heaviest_refusal 16 0 0) y
  turning_up (Ok o) q = turned_up
  turning_up (Err why) q = absurd q

  pub looser_no_worse : (x y : HeaviestAnswer) → HeaviestWithin 16 Within s marks x
      → HeaviestWithin 16 Within' s marks y → NoWorse x y
  looser_no_worse =
      compared 16 NoWorse (λ x y. not_less) Within Within' s marks marks refl covers (λ _. turning_up)

weighed : (Within : ℕ → Type 0) (s marks marks' : List ℕ) → Freer marks marks'
    → Covered (PairsWithin Within s marks (nodes_of s)) (PairsWithin Within s marks' (nodes_of s))
weighed Within s marks marks' f e p = (
  under s marks marks' (nodes_of s) e p,
  under_passes s marks marks' (nodes_of s) e p,
  under_keeps s marks marks' (nodes_of s) e p f,
)

-- freer marks, under any length test: the same pairs are within it, so none turns up
module _ (none : ℕ) (Within : ℕ → Type 0) (s marks marks' : List ℕ) (f : Freer marks marks')
    (many : length marks ≡ length marks') where
  found_both : ¬ Some (PairsWithin Within s marks (nodes_of s)) → (y : HeaviestAnswer)
      → GivesHeaviest (PairsWithin Within s marks' (nodes_of s)) y → NotLess (heaviest_refusal none 0 0) y
  found_both m (Ok o) q =
      let e : Entry = entry o.low o.high o.length o.weight in
      let back = under_passes s marks' marks (nodes_of s) e q.one in
      absurd (m (under s marks' marks (nodes_of s) e q.one, back))
  found_both m (Err why) q = absurd q

  pub freer_not_less : (x y : HeaviestAnswer) → HeaviestWithin none Within s marks x
      → HeaviestWithin none Within s marks' y → NotLess x y
  freer_not_less = compared none NotLess (λ x y p. p) Within Within s marks marks' many
      (weighed Within s marks marks' f) found_both
