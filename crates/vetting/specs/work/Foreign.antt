-- Rows that belong, and the first that does not.
use Rattle.std.specs.Prelude.{ℕ, ◌≤◌, ◌<◌, ◌≡◌, List}
use Rattle.pages.specs.Listing.{Entry}
use Rattle.pages.specs.Bytes.{row}
use Rattle.vetting.specs.Vets.{list_row}

-- row i is the row of an entry with P
pub record Belongs (P : Entry → Type 0) (s : List ℕ) (i : ℕ) : Type 0 where
  pub entry : Entry
  pub belongs : P entry
  pub shows : list_row s i ≡ row entry

-- of m rows the first that does not belong is row r; m where all do
pub record FirstForeign (P : Entry → Type 0) (s : List ℕ) (m r : ℕ) : Type 0 where
  pub within : r ≤ m
  pub belong : (i : ℕ) → i < r → Belongs P s i
  pub foreign : r < m → ¬ Belongs P s r
