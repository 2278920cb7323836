-- Lifted weights at the edge of a page: x stands for the signed number x − 2^33.
use Rattle.std.specs.Prelude.{ℕ, ◌≤◌, ◌<◌, ℤ, ◌≤ℤ◌}
use Rattle.std.proofs.Math.IntN.{sub_ℕ}
use Rattle.table.specs.work.Diff.{Diff}
use Rattle.table.specs.work.Lift.{sum_lift, sum_end}
use Rattle.pages.specs.declared.Sums.{Sums}

-- the signed number that x stands for
unfoldable pub lower : ℕ → ℤ
lower x = sub_ℕ x sum_lift

-- the lifted floor: a lifted weight is at least r exactly if what it stands for is at least the floor
pub record Raised (floor : ℤ) (r : ℕ) : Type 0 where
  pub enough : (x : ℕ) (w : ℤ) → Diff x sum_lift w → r ≤ x → floor ≤ℤ w
  pub needed : (x : ℕ) (w : ℤ) → Diff x sum_lift w → floor ≤ℤ w → r ≤ x

-- where lifted weights end: one is below r exactly if what it stands for is at most the ceiling
pub record Capped (ceiling : ℤ) (r : ℕ) : Type 0 where
  pub enough : (x : ℕ) (w : ℤ) → Diff x sum_lift w → x < r → w ≤ℤ ceiling
  pub needed : (x : ℕ) (w : ℤ) → Diff x sum_lift w → w ≤ℤ ceiling → x < r

-- the lifted weights that pass
abbrev pub InSums : Sums → ℕ → Type 0
InSums sums x = (sums.floor ≤ x) × (x < sums.end)

-- they are those of the weights with Heavy, of all that a sum of weights can be
pub record Weighs (Heavy : ℤ → Type 0) (sums : Sums) : Type 0 where
  pub enough : (x : ℕ) (w : ℤ) → Diff x sum_lift w → InSums sums x → Heavy w
  pub needed : (x : ℕ) (w : ℤ) → Diff x sum_lift w → x < sum_end → Heavy w → InSums sums x
