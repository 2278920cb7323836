-- DEMAND 2 of the operations heaviest and heaviest_exact, stated over the test that a length must pass: in an accepted
-- net with a mark for each branch the run found joins two different nodes within the test, and no other such pair
-- weighs more; refusal 16, or 21, exactly if no pair passes. (11 exactly if a ring is in the table: tree's
-- proofs/Theorems. What claim, commit and abort change: changes' proofs/Theorems.)
use Prim.Native.Nat.{ℕ, ◌-◌, ◌≤◌, ◌<◌}
use mathlib.Core.Path.{◌≡◌, refl, sym, ap, ◌∙◌}
use mathlib.Core.Logic.{◌↔◌, ◌≢◌}
use mathlib.Core.List.{List}
use native.Mathlib.Omega.{arith}
use lib.IntN.{ℤ}
use lib.ListN.{length}
use lib.Signed.{◌≤ℤ◌}
use Rattle.table.specs.Refuse.{refused, passed}
use Rattle.table.specs.Header.{nodes_of, bound_of}
use Rattle.table.proofs.Refusals.{past}
use Rattle.tree.specs.Accept.{Accepts, acceptance}
use Rattle.tree.proofs.Begins.{begins_past, begins_rest}
use Rattle.pages.specs.Listing.{Entry, entry, Before}
use Rattle.heaviest.specs.Heaviest.{
  HeaviestAnswer,
  heaviest_refusal,
  PairsWithin,
  Heaviest,
  Chooses,
  HeaviestWithin,
  HeaviestOf,
  HeaviestExactOf,
  between,
}
use Rattle.std.specs.Prelude.{Ok, Err}

-- the pairs of the table's net that pass the length test; within its bound; of exactly its length
abbrev pub Passing : (ℕ → Type 0) → List ℕ → List ℕ → Entry → Type 0
Passing Within s marks = PairsWithin Within s marks (nodes_of s)

abbrev pub InReach : List ℕ → List ℕ → Entry → Type 0
InReach s = Passing (λ l. l ≤ bound_of s) s

abbrev pub AtBound : List ℕ → List ℕ → Entry → Type 0
AtBound s = Passing (λ l. l ≡ bound_of s) s

-- the heaviest of what passes joins two different nodes, lower first, passes, and no other such pair weighs more
module _ (Within : ℕ → Type 0) (s marks : List ℕ) where
  pub run_passes : (e : Entry) → Heaviest (Passing Within s marks) e
      → (e.low < e.high) × (e.high < nodes_of s) × Within e.length
  run_passes e h = (h.one.pair, h.one.node, h.one.short)

  pub none_heavier : (e : Entry) → Heaviest (Passing Within s marks) e → (f : Entry) → Passing Within s marks f
      → f.weight ≤ℤ e.weight
  none_heavier e h f p = (h.best f p).weight

abbrev number_in : HeaviestAnswer → ℕ
number_in (Ok o) = 0
number_in (Err why) = why.number

abbrev taken : HeaviestAnswer → ℕ
taken (Ok o) = 1
taken (Err why) = 0

-- under any length test, `none` being the number given where no pair passes
module _ (none : ℕ) (Within : ℕ → Type 0) (s marks : List ℕ) where
  -- THE RUN FOUND. Where nothing is refused, the answer is a pair that passes and is at least as good as every other
  pub found_within : {a b l : ℕ} {w : ℤ} → HeaviestWithin none Within s marks (between a b l w)
      → Heaviest (Passing Within s marks) (entry a b l w)
  found_within {a} {b} {l} {w} p =
      let plain : (k r g : ℕ) → heaviest_refusal k r g ≡ between a b l w → ⊥ = λ k r g e. omega (arith, ap taken e) in
      (past (plain none 0 0) (past (plain 13 0 0) (begins_past heaviest_refusal s plain p).1).1).1

  -- NONE EXACTLY. An accepted table with a mark for each branch is refused by `none` exactly if no pair passes
  pub none_exactly : none ≢ 13 → Accepts s (acceptance (nodes_of s) (bound_of s)) → length marks ≡ nodes_of s - 1
      → (o : HeaviestAnswer) → HeaviestWithin none Within s marks o
      → (o ≡ heaviest_refusal none 0 0) ↔ ((e : Entry) → ¬ Passing Within s marks e)
  none_exactly other a m o p = let g = begins_rest heaviest_refusal s a p in (only o g, if o g)
    where
      if : (o : HeaviestAnswer) → Chooses none Within s (nodes_of s) marks o
          → ((e : Entry) → ¬ Passing Within s marks e) → o ≡ heaviest_refusal none 0 0
      if o (refused c) nothing = absurd (c m)
      if o (passed k (refused c)) nothing = refl
      if o (passed k (passed j g)) nothing = absurd (nothing j.0 j.1)

      only : (o : HeaviestAnswer) → Chooses none Within s (nodes_of s) marks o → o ≡ heaviest_refusal none 0 0
          → (e : Entry) → ¬ Passing Within s marks e
      only o (refused c) z e p = other (omega (arith, ap number_in z))
      only o (passed k (refused c)) z e p = c (e, p)
      only o (passed k (passed j g)) z e p = absurd (rw z at g)

-- both modes
module _ (s marks : List ℕ) where
  pub found_best : {a b l : ℕ} {w : ℤ} → HeaviestOf s marks (between a b l w)
      → Heaviest (InReach s marks) (entry a b l w)
  found_best = found_within 16 (λ l. l ≤ bound_of s) s marks

  pub run_joins : (e : Entry) → Heaviest (InReach s marks) e
      → (e.low < e.high) × (e.high < nodes_of s) × (e.length ≤ bound_of s)
  run_joins = run_passes (λ l. l ≤ bound_of s) s marks

  pub sixteen_exactly : Accepts s (acceptance (nodes_of s) (bound_of s)) → length marks ≡ nodes_of s - 1
      → (o : HeaviestAnswer) → HeaviestOf s marks o
      → (o ≡ heaviest_refusal 16 0 0) ↔ ((e : Entry) → ¬ InReach s marks e)
  sixteen_exactly = none_exactly 16 (λ l. l ≤ bound_of s) s marks (λ e. omega (arith, e))

  pub exact_best : {a b l : ℕ} {w : ℤ} → HeaviestExactOf s marks (between a b l w)
      → Heaviest (AtBound s marks) (entry a b l w)
  exact_best = found_within 21 (λ l. l ≡ bound_of s) s marks

  pub exact_joins : (e : Entry) → Heaviest (AtBound s marks) e
      → (e.low < e.high) × (e.high < nodes_of s) × (e.length ≡ bound_of s)
  exact_joins = run_passes (λ l. l ≡ bound_of s) s marks

  -- no pair of exactly that length weighs more, and of those that weigh as much none comes earlier
  pub exact_earliest : (e : Entry) → Heaviest (AtBound s marks) e → (f : Entry) → AtBound s marks f
      → (f.weight ≤ℤ e.weight) × (f.weight ≡ e.weight → ¬ Before f e)
  exact_earliest e h f p = ((h.best f p).weight, λ q. (h.best f p).pair q (p.short ∙ sym h.one.short))

  pub twenty_one_exactly : Accepts s (acceptance (nodes_of s) (bound_of s)) → length marks ≡ nodes_of s - 1
      → (o : HeaviestAnswer) → HeaviestExactOf s marks o
      → (o ≡ heaviest_refusal 21 0 0) ↔ ((e : Entry) → ¬ AtBound s marks e)
  twenty_one_exactly = none_exactly 21 (λ l. l ≡ bound_of s) s marks (λ e. omega (arith, e))
