-- A set of numbers below 1,048,576, as the bits of 16,384 words: 128 KiB.
use Rattle.std.specs.Prelude.{ℕ, zero, suc, ◌/◌, ◌%◌, ◌≡◌, ◌≢◌, Bool, true, false, List, length}
use Rattle.arrays.specs.At.{at}

-- bit k of w
unfoldable pub bit : ℕ → ℕ → ℕ
bit zero w = w % 2
bit (suc k) w = bit k (w / 2)

-- p is in the set
pub record Has (bits : List ℕ) (p : ℕ) : Type 0 where
  pub set : bit (p % 64) (at bits (p / 64)) ≡ 1

-- p was put into the set old, and r says whether it is new
pub record PutIn (old : List ℕ) (p : ℕ) (r : Bool) (now : List ℕ) : Type 0 where
  pub long : length now ≡ length old
  pub twice : r ≡ false → Has old p
  pub new : r ≡ true → ¬ Has old p
  pub here : r ≡ true → Has now p
  pub keeps : (j : ℕ) → Has old j → Has now j
  pub only : (j : ℕ) → j ≢ p → Has now j → Has old j
