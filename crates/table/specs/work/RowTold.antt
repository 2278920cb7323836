-- What the test of a row gives: the number that it meets, if any.
use Rattle.std.specs.Prelude.{◌≡◌, List, ℕ, Option, None, Some}
use Rattle.table.specs.Examine.{RowNumber}

abbrev pub number_of : Option ℕ → ℕ
number_of None = 0
number_of (Some k) = k

-- it is the row's number, and a number given is not 0
pub record RowTold (n : ℕ) (s : List ℕ) (r : ℕ) (q : Option ℕ) : Type 0 where
  pub number : RowNumber n s r (number_of q)
  pub met : number_of q ≡ 0 → q ≡ None
