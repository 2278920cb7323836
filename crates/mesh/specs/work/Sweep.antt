-- What the sweep from the root computes: for each node the most rows on a simple path to it, from its parent's.
use Rattle.std.specs.Prelude.{ℕ, ◌+◌, ◌≤◌, ◌<◌, ◌≡◌, ◌⊎◌, ◌≢◌, List}
use Rattle.arrays.specs.At.{at}
use Rattle.net.specs.Count.{Count}

-- the longer way round a ring of m + 1 rows, i of them the one way, after b rows
abbrev pub LongerWay : ℕ → ℕ → ℕ → ℕ → Type 0
LongerWay b i m d = ((m + 1 ≤ i + i) × (d ≡ b + i)) ⊎ ((i + i ≤ m + 1) × (d + i ≡ b + m + 1))

-- base and climb of z from its parent's: f and g are the bands of the two, d, b, i the parent's values
pub record SweptOn (f g d b i base climb : ℕ) : Type 0 where
  pub first : f ≢ g → (base ≡ d) × (climb ≡ 1)
  pub again : f ≡ g → (base ≡ b) × (climb ≡ i + 1)

pub record Law (n : ℕ) (par over D b i : List ℕ) (z : ℕ) : Type 0 where
  pub m : ℕ
  pub many : Count (λ x. (x < n) × (at over x ≡ at over z)) m
  pub step : SweptOn (at over (at par z)) (at over z) (at D (at par z)) (at b (at par z)) (at i (at par z)) (at b z)
      (at i z)
  pub best : LongerWay (at b z) (at i z) m (at D z)

pub record Computed (n a : ℕ) (par over D b i : List ℕ) : Type 0 where
  pub start : at D a ≡ 0
  pub law : (z : ℕ) → z < n → z ≢ a → Law n par over D b i z

-- the first of n nodes with the greatest value
pub record Farthest (n : ℕ) (d : List ℕ) (z : ℕ) : Type 0 where
  pub within : z < n
  pub most : (y : ℕ) → y < n → at d y ≤ at d z
  pub first : (y : ℕ) → y < z → at d y < at d z
