-- How many rows the ring has that a row closes.
use Rattle.std.specs.Prelude.{ℕ, ◌+◌, ◌≡◌, List, length}
use Rattle.net.specs.Graph.{RingAt}
use Rattle.net.specs.Path.{Path}

-- row r's number g: 0 where earlier rows do not join its ends; else one more than the number of rows on the simple path
-- that the rows before it make between them
pub data RingRows (u v : ℕ → ℕ) (r g : ℕ) : Type 0 where
  apart : ¬ RingAt u v r → g ≡ 0 → RingRows u v r g
  closed : (rs : List ℕ) → Path u v r (u r) rs (v r) → g ≡ 1 + length rs → RingRows u v r g
