-- What the code that reads rows asks of the table.
use Rattle.std.specs.Prelude.{ℕ, ◌+◌, ◌-◌, ◌≤◌, ◌<◌, List}
use Rattle.table.specs.Row.{Stands}
use Rattle.net.specs.Graph.{RingAt}
use Rattle.net.specs.Net.{first_end, second_end}

-- the ends of each row are below n
pub record RowsFit (us vs : ℕ → ℕ) (rows n : ℕ) : Type 0 where
  pub first : (r : ℕ) → r < rows → us r < n
  pub second : (r : ℕ) → r < rows → vs r < n

-- what the code that reads rows asks: the rows stand in the table, and their ends are places of the arrays
pub record Readable (s : List ℕ) (rows : ℕ) : Type 0 where
  pub few : rows < 4096
  pub stands : (r : ℕ) → r < rows → Stands s r
  pub fit : RowsFit (first_end s) (second_end s) rows 4096

-- n nodes and n − 1 rows between them
pub record Fitting (s : List ℕ) (n : ℕ) : Type 0 where
  pub some : 1 ≤ n
  pub few : n ≤ 4096
  pub stands : (r : ℕ) → r < n - 1 → Stands s r
  pub fit : RowsFit (first_end s) (second_end s) (n - 1) n

-- the rows before row r join its ends
pub record Closing (s : List ℕ) (r : ℕ) : Type 0 where
  pub readable : Readable s (r + 1)
  pub joins : RingAt (first_end s) (second_end s) r
