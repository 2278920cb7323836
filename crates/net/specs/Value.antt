-- The length and the weight of the path between two nodes: sums over its rows, the sum of weights signed.
use Rattle.std.specs.Prelude.{ℕ, ◌≡◌, List, [], ◌∷◌, ℤ, pos, ◌+ℤ◌}
use Rattle.net.specs.Path.{Sum, Path}

unfoldable pub Total : (ℕ → ℤ) → List ℕ → ℤ
Total f [] = pos 0
Total f (r ∷ rs) = f r +ℤ Total f rs

-- the simple path from a to b, along the first k rows, has length l and weight w; row r is `long r` long and weighs
-- `heavy r`
pub record Value (u v : ℕ → ℕ) (k : ℕ) (long : ℕ → ℕ) (heavy : ℕ → ℤ) (a b l : ℕ) (w : ℤ) : Type 0 where
  pub rows : List ℕ
  pub path : Path u v k a rows b
  pub length : Sum long rows ≡ l
  pub weight : Total heavy rows ≡ w
