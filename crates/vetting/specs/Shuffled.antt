-- A list in another order.
use Rattle.std.specs.Prelude.{List, [], ◌∷◌}

-- k is l with x put in somewhere
pub data Inserted {A : Type 0} (x : A) : List A → List A → Type 0 where
  front : {l : List A} → Inserted x l (x ∷ l)
  later : {y : A} {l k : List A} → Inserted x l k → Inserted x (y ∷ l) (y ∷ k)

-- k has the members of l, each as often, in some order
pub data Shuffled {A : Type 0} : List A → List A → Type 0 where
  none : Shuffled [] []
  more : {x : A} {l k h : List A} → Shuffled l k → Inserted x k h → Shuffled (x ∷ l) h
