-- Rows as the code reads them.
use Rattle.std.specs.Prelude.{List, ℕ, ◌+◌, ◌*◌, ◌≤◌, ◌<◌}
use Rattle.table.specs.Bytes.{u16_at, u32_at}
use Rattle.table.specs.Row.{Stands}
use Rattle.roads.specs.Text.{Arc}

-- row r as an arc, with the number that stands at `place` in the row: 4 the length, 8 the weight
abbrev pub row_arc : ℕ → List ℕ → ℕ → Arc
row_arc place s r =
    record {
      from = u16_at s (12 + 12 * r) + 1;
      to = u16_at s (14 + 12 * r) + 1;
      number = u32_at s (12 + place + 12 * r);
    }

-- m rows stand in the bytes s, and in each row a number at `place`
pub record RowsThere (s : List ℕ) (m place : ℕ) : Type 0 where
  pub few : m ≤ 4095
  pub stands : (r : ℕ) → r < m → Stands s r
  pub within : place ≤ 8
