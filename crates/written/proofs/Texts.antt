-- How long the texts are, by their parts: a row's two lines are of one size, and the lines of fewer rows take no more
-- room than those of all.
use mathlib.Core.Path.{◌≡◌, refl, ap, ◌∙◌}
use mathlib.Core.List.{[], ◌∷◌, ◌++◌}
use Prim.Native.Nat.{ℕ, zero, suc, ◌+◌, ◌-◌, ◌*◌, ◌≤◌, ◌<◌}
use native.Mathlib.Omega.{arith}
use native.Mathlib.Numerals.{add-one}
use borrow.Author.Tests.{le-leb, lt-leb}
use lib.ListN.{length, length-append}
use Rattle.text.specs.Decimal.{decimal}
use Rattle.text.specs.Word.{word}
use Rattle.roads.specs.Text.{Arc}
use Rattle.written.specs.Written.{opposite}
use Rattle.written.specs.work.Texts.{
  field_text,
  either_text,
  number_text,
  arc_text,
  row_text,
  rows_text,
  head_text,
  text_of,
}

pub field_length : (x end : ℕ) → length (field_text x end) ≡ length (decimal x) + 1
field_length x end = length-append (decimal x) (end ∷ [])

-- 32 bits as a number
module _ (top b : ℕ) where
  pub number_up : b ≤ top → number_text top b ≡ decimal b
  unfolding number_text either_text
  number_up h = let e = le-leb b top h in rw e

  pub number_down : top < b → number_text top b ≡ 45 ∷ decimal (4294967296 - b)
  unfolding number_text either_text
  number_down h = let e = lt-leb b top h in rw e

  pub last_up : b ≤ top → number_text top b ++ 10 ∷ [] ≡ field_text b 10
  last_up h = rw (number_up h)

  pub last_down : top < b → number_text top b ++ 10 ∷ [] ≡ 45 ∷ [] ++ field_text (4294967296 - b) 10
  last_down h = rw (number_down h)

  pub last_length : length (number_text top b ++ 10 ∷ []) ≡ length (number_text top b) + 1
  last_length = length-append (number_text top b) (10 ∷ [])

module _ (top : ℕ) (e : Arc) where
  pub arc_length : length (arc_text top e)
      ≡ 2 + length (field_text e.from 32) + length (field_text e.to 32)
      + length (number_text top e.number ++ 10 ∷ [])
  unfolding arc_text word
  arc_length = simp length-append (omega arith)

  pub row_length : length (row_text top e) ≡ length (arc_text top e) + length (arc_text top (opposite e))
  row_length = length-append (arc_text top e) (arc_text top (opposite e))

-- and of one size
pub arc_turned : (top : ℕ) (e : Arc) → length (arc_text top (opposite e)) ≡ length (arc_text top e)
arc_turned top e = omega (arith, arc_length top e, arc_length top (opposite e))

-- a row's two lines, in digits
pub row_size : (top : ℕ) (e : Arc)
    → length (row_text top e)
    ≡ 2 * (5 + length (decimal e.from) + length (decimal e.to) + length (number_text top e.number))
row_size top e = omega (
  arith,
  row_length top e,
  arc_length top e,
  arc_length top (opposite e),
  field_length e.from 32,
  field_length e.to 32,
  last_length top e.number,
)

pub head_length : (n m : ℕ) → length (head_text n m) ≡ 5 + length (field_text n 32) + length (field_text m 10)
unfolding head_text word
head_length n m = simp length-append (omega arith)

-- row after row
module _ (top : ℕ) (row : ℕ → Arc) where
  pub rows_none : rows_text top row 0 ≡ []
  unfolding rows_text
  rows_none = refl

  pub rows_next : (r : ℕ) → rows_text top row (r + 1) ≡ rows_text top row r ++ row_text top (row r)
  unfolding rows_text
  rows_next r = rw add-one

  pub rows_length : (r : ℕ)
      → length (rows_text top row (r + 1)) ≡ length (rows_text top row r) + length (row_text top (row r))
  rows_length r = ap length (rows_next r) ∙ length-append (rows_text top row r) (row_text top (row r))

  rows_grow : (r k : ℕ) → length (rows_text top row r) ≤ length (rows_text top row (r + k))
  rows_grow r zero = let e : r + 0 ≡ r = omega arith in rw e (omega arith)
  rows_grow r (suc k) =
      let e : r + suc k ≡ (r + k) + 1 = omega arith in rw e (omega (arith, rows_length (r + k), rows_grow r k))

  -- one more of m
  pub rows_room : (r m : ℕ) → r < m
      → length (rows_text top row r) + length (row_text top (row r)) ≤ length (rows_text top row m)
  rows_room r m h =
      let e : (r + 1) + (m - (r + 1)) ≡ m = omega arith in
      omega (arith, rows_length r, rw e at (rows_grow (r + 1) (m - (r + 1))))

  pub text_length : (n m : ℕ)
      → length (text_of top n row m) ≡ length (head_text n (2 * m)) + length (rows_text top row m)
  unfolding text_of
  text_length n m = length-append (head_text n (2 * m)) (rows_text top row m)
