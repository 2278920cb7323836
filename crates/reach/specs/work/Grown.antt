-- What a sweep over the order needs of a walk.
use Rattle.std.specs.Prelude.{ℕ, ◌≤◌, ◌<◌, ◌≡◌, ◌≢◌, List}
use Rattle.arrays.specs.At.{at}
use Rattle.reach.specs.work.Placing.{Placed}

-- n nodes in an order from the root, each once, parents before children
pub record Grown (n : ℕ) (parent order place : List ℕ) : Type 0 where
  pub some : (0 < n) × (n ≤ 4096)
  pub root : at order 0 ≡ 0
  pub within : (i : ℕ) → i < n → at order i < n
  pub back : (i : ℕ) → i < n → at place (at order i) ≡ i
  pub here : (x : ℕ) → x < n → (at place x < n) × (at order (at place x) ≡ x)
  pub fits : (x : ℕ) → x < n → x ≢ 0 → at parent x < n
  pub earlier : (x : ℕ) → x < n → x ≢ 0 → at place (at parent x) < at place x

-- the same of some places: a sweep that reads none needs no array of them
abbrev pub Ordered : ℕ → List ℕ → List ℕ → Type 0
Ordered n parent order = Placed (Grown n parent order)
