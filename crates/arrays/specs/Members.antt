-- Members of a list of numbers, rows or entries, and lists that hold no member twice.
use Rattle.std.specs.Prelude.{◌≡◌, List, [], ◌∷◌}

pub data In {A : Type 0} (x : A) : List A → Type 0 where
  at : {y : A} {l : List A} → x ≡ y → In x (y ∷ l)
  past : {y : A} {l : List A} → In x l → In x (y ∷ l)

abbrev pub Distinct : {A : Type 0} → List A → Type 0
Distinct [] = Unit {0}
Distinct (x ∷ l) = (¬ In x l) × Distinct l
