-- The changed table: the table with the rows of the change set written in.
use Rattle.std.specs.Prelude.{◌≡◌, List, ℕ, ◌+◌, ◌*◌, length, take, drop}
use Rattle.table.specs.Row.{Stands}
use Rattle.changeset.specs.Shown.{RowShown}

-- t is s with the rows of c written in: as long, the same header, and each row the row shown
pub record WrittenIn (s c t : List ℕ) : Type 0 where
  pub size : length t ≡ length s
  pub header : take 12 t ≡ take 12 s
  pub rows : (r : ℕ) → Stands s r → RowShown s c r (take 12 (drop (12 + 12 * r) t))
