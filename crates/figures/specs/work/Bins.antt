-- The least number from one place of a list to another, from three tables over bins of 64 places. A number in a table
-- is 65535 where it stands for no place.
use Rattle.std.specs.Prelude.{ℕ, ◌+◌, ◌-◌, ◌*◌, ◌/◌, ◌%◌, ◌≤◌, ◌<◌, min, ◌≡◌, ◌≢◌, List, length}
use Rattle.arrays.specs.At.{at}

-- m is the least f of the numbers from a to below b, or 65535 where none of them has less
pub record LeastOrNone (f : ℕ → ℕ) (a b m : ℕ) : Type 0 where
  pub all : (k : ℕ) → a ≤ k → k < b → m ≤ f k
  pub some : m < 65535 → (k : ℕ) × (a ≤ k) × (k < b) × (f k ≡ m)

-- of each place from i on, the least from there to its bin's end
pub record Tails (above : List ℕ) (i : ℕ) (tail : List ℕ) : Type 0 where
  pub long : length tail ≡ 4096
  pub each : (k : ℕ) → i ≤ k → k < 4096 → LeastOrNone (at above) k (64 * (k / 64) + 64) (at tail k)

-- of each place below i, the least from its bin's begin to there
pub record Fronts (above : List ℕ) (i : ℕ) (front : List ℕ) : Type 0 where
  pub long : length front ≡ 4096
  pub each : (k : ℕ) → k < i → LeastOrNone (at above) (64 * (k / 64)) (k + 1) (at front k)

-- at 64 a + b, the least of the bins between bin a and bin b; of those below i
pub record Gaps (above : List ℕ) (i : ℕ) (gap : List ℕ) : Type 0 where
  pub long : length gap ≡ 4096
  pub each : (k : ℕ) → k < i → LeastOrNone (at above) (64 * (k / 64) + 64) (64 * (k % 64)) (at gap k)

-- all three, whole
pub record Tables (above tail front gap : List ℕ) : Type 0 where
  pub tails : Tails above 0 tail
  pub fronts : Fronts above 4096 front
  pub gaps : Gaps above 4096 gap

-- what stands in a table already, for the turn of place i
pub record TailTurn (tail : List ℕ) (i r : ℕ) : Type 0 where
  pub last : i % 64 ≡ 63 → r ≡ 65535
  pub rest : i % 64 ≢ 63 → r ≡ at tail (i + 1)

pub record FrontTurn (front : List ℕ) (i r : ℕ) : Type 0 where
  pub first : i % 64 ≡ 0 → r ≡ 65535
  pub rest : i % 64 ≢ 0 → r ≡ at front (i - 1)

pub record GapTurn (gap tail : List ℕ) (i r : ℕ) : Type 0 where
  pub near : i % 64 ≤ i / 64 + 1 → r ≡ 65535
  pub far : i / 64 + 1 < i % 64 → r ≡ min (at gap (i - 1)) (at tail (64 * (i % 64 - 1)))

-- what is asked to find the least behind place i and up to place j
pub record LeastAsked (above tail front gap : List ℕ) (i j : ℕ) : Type 0 where
  pub order : i < j
  pub place : j < 4096
  pub tables : Tables above tail front gap
  pub small : at above j < 65535
