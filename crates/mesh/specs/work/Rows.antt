-- The rows of a mesh: what the functions that read them ask, and what the test of all of them gives.
use Rattle.std.specs.Prelude.{ℕ, ◌≤◌, ◌<◌, ◌≢◌, List}
use Rattle.table.specs.Row.{Stands}
use Rattle.table.specs.Examine.{RowNumber}
use Rattle.net.specs.Net.{first_end, second_end}

-- k rows, whose ends are different nodes below n
pub record EndsApart (u v : ℕ → ℕ) (k n : ℕ) : Type 0 where
  pub first : (r : ℕ) → r < k → u r < n
  pub second : (r : ℕ) → r < k → v r < n
  pub apart : (r : ℕ) → r < k → u r ≢ v r

-- which stand in the table
pub record MeshReadable (s : List ℕ) (k n : ℕ) : Type 0 where
  pub stands : (r : ℕ) → r < k → Stands s r
  pub rows : EndsApart (first_end s) (second_end s) k n
  pub few : n ≤ 256

-- the first bad row of k and its number
pub record FirstBadRow (s : List ℕ) (n k number row : ℕ) : Type 0 where
  pub within : row < k
  pub before : (i : ℕ) → i < row → RowNumber n s i 0
  pub here : RowNumber n s row number
  pub bad : number ≢ 0
