-- The floor of a binary logarithm, which bounds the hops.
use Rattle.std.specs.Prelude.{ℕ, ◌+◌, ◌^◌, ◌≤◌, ◌<◌}

-- k is the floor of the binary logarithm of x
pub record FloorLog (x k : ℕ) : Type 0 where
  pub least : 2 ^ k ≤ x
  pub most : x < 2 ^ (k + 1)
