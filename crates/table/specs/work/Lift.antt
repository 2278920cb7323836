-- Lifted weights: a row's weight plus 1,000,000, and a sum of weights plus 2^33, so that nothing above does signed
-- arithmetic.
use Rattle.std.specs.Prelude.{◌≡◌, List, ℕ, ◌≤◌, ◌<◌, ℤ, pos}
use Rattle.table.specs.work.Diff.{Diff}
use Rattle.table.specs.Signed.{InRange}
use Rattle.table.specs.Row.{Stands, row_at}

-- what is added to a row's weight
abbrev pub row_lift : ℕ
row_lift = 1000000

-- what is added to a sum of weights, 2^33; and what every lifted sum is below
abbrev pub sum_lift : ℕ
sum_lift = 8589934592

abbrev pub sum_end : ℕ
sum_end = 17179869184

-- row r's weight lifted; 0 where there is no such row or its weight is out of range
pub record LiftedOf (s : List ℕ) (r q : ℕ) : Type 0 where
  pub lifts : Stands s r → InRange (row_at s r).weight → Diff q row_lift (row_at s r).weight
  pub none : (Stands s r → InRange (row_at s r).weight → ⊥) → q ≡ 0
  pub small : q ≤ 2000000

-- a lifted sum brought back; 0 where it is no such sum
pub record LoweredOf (x : ℕ) (z : ℤ) : Type 0 where
  pub back : x < sum_end → Diff x sum_lift z
  pub none : sum_end ≤ x → z ≡ pos 0
