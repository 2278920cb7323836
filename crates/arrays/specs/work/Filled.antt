-- A list of m places that all hold v: what filling a work array leaves.
use Rattle.std.specs.Prelude.{ℕ, ◌<◌, ◌≡◌, List, length}
use Rattle.arrays.specs.At.{at}

pub record Filled (m v : ℕ) (l : List ℕ) : Type 0 where
  pub long : length l ≡ m
  pub each : (i : ℕ) → i < m → at l i ≡ v
