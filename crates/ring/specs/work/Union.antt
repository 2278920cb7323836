-- What union by rank keeps, and what it finds: the first row that closes a ring.
use Rattle.std.specs.Prelude.{ℕ, ◌+◌, ◌≤◌, ◌<◌, ◌≡◌, ◌⊎◌, ◌≢◌, List, length, set}
use Rattle.arrays.specs.At.{at}
use Rattle.net.specs.Graph.{RingAt}
use Rattle.net.specs.work.Forest.{Forest}

-- each of the first i of 4,096 places holds its own number
pub record Numbered (i : ℕ) (l : List ℕ) : Type 0 where
  pub long : length l ≡ 4096
  pub each : (k : ℕ) → k < i → at l k ≡ k

-- x is its own, or climbs to t
pub data Climb (up : List ℕ) : ℕ → ℕ → Type 0 where
  here : {x : ℕ} → Climb up x x
  step : {x y t : ℕ} → at up x ≡ y → Climb up y t → Climb up x t

-- every climb ends: ranks rise along it, and none is more than k
pub record Rises (up rank : List ℕ) (k : ℕ) : Type 0 where
  pub within : (x : ℕ) → x < 4096 → at up x < 4096
  pub rises : (x : ℕ) → x < 4096 → (at up x ≢ x) → at rank x < at rank (at up x)
  pub most : (x : ℕ) → x < 4096 → at rank x ≤ k

-- t is the root of x
pub record Root (up : List ℕ) (x t : ℕ) : Type 0 where
  pub within : t < 4096
  pub root : at up t ≡ t
  pub climbs : Climb up x t

-- the answer: the first row whose ends are joined by the rows before it, or how many rows there are
pub record FirstRing (us vs : ℕ → ℕ) (rows r : ℕ) : Type 0 where
  pub within : r ≤ rows
  pub forest : Forest us vs r
  pub closes : r < rows → RingAt us vs r

-- what linking two roots asks
pub record Linkable (p q : ℕ) (rank : List ℕ) : Type 0 where
  pub one : p < 4096
  pub two : q < 4096
  pub apart : p ≢ q
  pub long : length rank ≡ 4096
  pub one_low : at rank p ≤ 4096
  pub two_low : at rank q ≤ 4096

-- b is put above a, and only b's rank may change
pub record Linked (a b : ℕ) (up rank up₂ rank₂ : List ℕ) : Type 0 where
  pub put : up₂ ≡ set up a b
  pub long : length rank₂ ≡ length rank
  pub same : (x : ℕ) → x ≢ b → at rank₂ x ≡ at rank x
  pub above : at rank a < at rank₂ b
  pub grows : at rank b ≤ at rank₂ b
  pub most : (at rank₂ b ≡ at rank b) ⊎ ((at rank₂ b ≡ at rank b + 1) × (at rank a ≡ at rank b))

abbrev pub Union : ℕ → ℕ → List ℕ → List ℕ → List ℕ → List ℕ → Type 0
Union p q up rank up₂ rank₂ = Linked p q up rank up₂ rank₂ ⊎ Linked q p up rank up₂ rank₂
