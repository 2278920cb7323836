-- "Relaxing never hurts" (Req 08): the same table with a larger B; how two outcomes of heaviest compare, and two lists;
-- what calls of the listing gave.
use Rattle.std.specs.Prelude.{ℕ, ◌/◌, ◌≤◌, List, [], ◌∷◌, ℤ, length, ◌≤ℤ◌, Ok, Err}
use Rattle.table.specs.Bound.{SameButBound}
use Rattle.table.specs.Header.{bound_of}
use Rattle.tree.specs.declared.Refusal.{Refusal}
use Rattle.pages.specs.Listing.{Entry}
use Rattle.pages.specs.Bytes.{entries}
use Rattle.paging.specs.Asks.{Asks}
use Rattle.listing.specs.Listing.{ListingOf}
use Rattle.heaviest.specs.Heaviest.{heaviest_refusal, HeaviestAnswer, between}

-- equal but for the bytes of B, and the first B is at most the second
pub record BoundRaised (s t : List ℕ) : Type 0 where
  pub same : SameButBound s t
  pub raised : bound_of s ≤ bound_of t

-- both refused alike, or both found, and the second run weighs no less
pub data NotLess : HeaviestAnswer → HeaviestAnswer → Type 0 where
  alike : (why : Refusal) → NotLess (Err why) (Err why)
  found : {a b c d l m : ℕ} {w v : ℤ} → w ≤ℤ v → NotLess (between a b l w) (between c d m v)

-- that; or first 16, no pair within the bound, and then a run
pub data NoWorse : HeaviestAnswer → HeaviestAnswer → Type 0 where
  not_less : {x y : HeaviestAnswer} → NotLess x y → NoWorse x y
  turned_up : {a b l : ℕ} {w : ℤ} → NoWorse (heaviest_refusal 16 0 0) (between a b l w)

-- a run that weighs w or more
abbrev pub FoundFrom : ℤ → HeaviestAnswer → Type 0
FoundFrom w (Ok o) = w ≤ℤ o.weight
FoundFrom w (Err why) = ⊥

-- the first list is the second with some entries left out: what stays, stays in its order
pub data Sublist {A : Type 0} : List A → List A → Type 0 where
  none : Sublist [] []
  kept : {x : A} {l m : List A} → Sublist l m → Sublist (x ∷ l) (x ∷ m)
  left_out : {x : A} {l m : List A} → Sublist l m → Sublist l (x ∷ m)

-- calls of the listing from (0, 0) on until none is left, none of them refused, gave these bytes, joined
abbrev pub Gave : List ℕ → List ℕ → ℤ → List ℕ → Type 0
Gave s marks floor joined = Asks (ListingOf s marks floor) 0 0 joined

-- the rows in them, 16 bytes each
abbrev pub rows_in : List ℕ → List Entry
rows_in joined = entries joined 0 (length joined / 16)
