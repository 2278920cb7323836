-- Texts as functions of what they say.
use Rattle.std.specs.Prelude.{Bool, true, false, List, [], ◌∷◌, ◌++◌, ℕ, zero, suc, ◌-◌, ◌*◌, leb}
use Rattle.text.specs.Decimal.{decimal}
use Rattle.text.specs.Word.{word}
use Rattle.roads.specs.Text.{Arc}
use Rattle.written.specs.Written.{opposite}

-- a number and the byte that ends it
abbrev pub field_text : ℕ → ℕ → List ℕ
field_text x end = decimal x ++ end ∷ []

unfoldable pub either_text : Bool → List ℕ → List ℕ → List ℕ
either_text true a b = a
either_text false a b = b

-- 32 bits as a number: up to top that number, beyond it a negative one
unfoldable pub number_text : ℕ → ℕ → List ℕ
number_text top b = either_text (leb b top) (decimal b) (45 ∷ decimal (4294967296 - b))

unfoldable pub arc_text : ℕ → Arc → List ℕ
arc_text top e =
    word "a " ++ field_text e.from 32 ++ field_text e.to 32 ++ (number_text top e.number ++ 10 ∷ [])

abbrev pub row_text : ℕ → Arc → List ℕ
row_text top e = arc_text top e ++ arc_text top (opposite e)

-- the lines of the first m rows
unfoldable pub rows_text : ℕ → (ℕ → Arc) → ℕ → List ℕ
rows_text top row zero = []
rows_text top row (suc m) = rows_text top row m ++ row_text top (row m)

unfoldable pub head_text : ℕ → ℕ → List ℕ
head_text n m = word "p sp " ++ field_text n 32 ++ field_text m 10

unfoldable pub text_of : ℕ → ℕ → (ℕ → Arc) → ℕ → List ℕ
text_of top n row m = head_text n (2 * m) ++ rows_text top row m
