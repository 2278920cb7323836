-- The first rows make no ring.
use Rattle.std.specs.Prelude.{ℕ, ◌<◌}
use Rattle.net.specs.Graph.{RingAt}

-- no row of the first k closes one
abbrev pub Forest : (ℕ → ℕ) → (ℕ → ℕ) → ℕ → Type 0
Forest u v k = (r : ℕ) → r < k → ¬ RingAt u v r
