-- The operations heaviest and heaviest_exact: refusals 1 to 11, then 13, then 16 or 21; then the heaviest run.
use Rattle.std.specs.Prelude.{ℕ, ◌-◌, ◌≤◌, ◌≡◌, List, length, ◌≤ℤ◌, ℤ, Result, Ok, Err}
use Rattle.table.specs.Refuse.{Unless}
use Rattle.table.specs.Header.{nodes_of, bound_of}
use Rattle.tree.specs.Accept.{Begins}
use Rattle.pages.specs.Listing.{Entry, entry, Before}
use Rattle.pages.specs.Passes.{Passes}
use Rattle.ground.specs.PathOf.{PathOf}
use Rattle.tree.specs.declared.Refusal.{Refusal}
use Rattle.heaviest.specs.declared.Between.{Between}

-- the heaviest run: its nodes, length and weight; or why none
abbrev pub HeaviestAnswer : Type 0
HeaviestAnswer = Result Between Refusal

abbrev pub between : ℕ → ℕ → ℕ → ℤ → HeaviestAnswer
between a b l w = Ok (record { low = a; high = b; length = l; weight = w })

abbrev pub heaviest_refusal : ℕ → ℕ → ℕ → HeaviestAnswer
heaviest_refusal k r g = Err (record { number = k; row = r; ring = g })

-- the pairs of the net of n nodes within the length test, of any weight
abbrev pub PairsWithin : (ℕ → Type 0) → List ℕ → List ℕ → ℕ → Entry → Type 0
PairsWithin Within s marks n = Passes (PathOf s marks n) Within (λ w. Unit {0}) n

-- e is at least as good as f: greater weight; of equal weight the shorter; then not the later pair
pub record AtLeast (e f : Entry) : Type 0 where
  pub weight : f.weight ≤ℤ e.weight
  pub length : f.weight ≡ e.weight → e.length ≤ f.length
  pub pair : f.weight ≡ e.weight → f.length ≡ e.length → ¬ Before f e

-- the heaviest of those with P; it may weigh less than 0
pub record Heaviest (P : Entry → Type 0) (e : Entry) : Type 0 where
  pub one : P e
  pub best : (f : Entry) → P f → AtLeast e f

abbrev pub GivesHeaviest : (Entry → Type 0) → HeaviestAnswer → Type 0
GivesHeaviest P (Ok o) = Heaviest P (entry o.low o.high o.length o.weight)
GivesHeaviest P (Err why) = ⊥

-- 13, then `none` where no pair is within the length test, then the heaviest run, of a net of n nodes
abbrev pub Chooses : ℕ → (ℕ → Type 0) → List ℕ → ℕ → List ℕ → HeaviestAnswer → Type 0
Chooses none Within s n marks =
    Unless HeaviestAnswer (heaviest_refusal 13 0 0) (length marks ≡ n - 1)
    (Unless HeaviestAnswer (heaviest_refusal none 0 0) ((e : Entry) × PairsWithin Within s marks n e)
    (GivesHeaviest (PairsWithin Within s marks n)))

-- the whole promise, under any length test; heaviest's own: 16, at most B; and heaviest_exact's: 21, exactly B
abbrev pub HeaviestWithin : ℕ → (ℕ → Type 0) → List ℕ → List ℕ → HeaviestAnswer → Type 0
HeaviestWithin none Within s marks = Begins HeaviestAnswer heaviest_refusal s (Chooses none Within s (nodes_of s) marks)

abbrev pub HeaviestOf : List ℕ → List ℕ → HeaviestAnswer → Type 0
HeaviestOf s = HeaviestWithin 16 (λ l. l ≤ bound_of s) s

abbrev pub HeaviestExactOf : List ℕ → List ℕ → HeaviestAnswer → Type 0
HeaviestExactOf s = HeaviestWithin 21 (λ l. l ≡ bound_of s) s
