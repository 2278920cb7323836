-- The row shown for a branch: the change set's own bytes where it has an entry, and otherwise the table's own bytes.
-- For any bytes and any row number.
use Rattle.std.specs.Prelude.{◌≡◌, List, [], ℕ, ◌+◌, ◌*◌, ◌<◌, take, drop}
use Rattle.table.specs.Row.{Stands}
use Rattle.changeset.specs.Entries.{HasEntry, row_for}

-- where a row's 12 bytes lie: in an entry of the set, in the table, or nowhere
pub data Source : Type 0 where
  in_set : ℕ → Source
  in_table : Source
  nowhere : Source

-- entry i is the first for row r; in a set that is not refused it is the only one
pub record FirstFor (c : List ℕ) (r i : ℕ) : Type 0 where
  pub has : HasEntry c i
  pub is : row_for c i ≡ r
  pub before : (j : ℕ) → j < i → row_for c j ≡ r → ⊥

-- no entry is for row r
abbrev pub Unchanged : List ℕ → ℕ → Type 0
Unchanged c r = (i : ℕ) → HasEntry c i → row_for c i ≡ r → ⊥

-- the source of row r: nowhere if the table has no such row
pub data SourceOf (s c : List ℕ) (r : ℕ) : Source → Type 0 where
  changed : (i : ℕ) → Stands s r → FirstFor c r i → SourceOf s c r (in_set i)
  kept : Stands s r → Unchanged c r → SourceOf s c r in_table
  nothing : (Stands s r → ⊥) → SourceOf s c r nowhere

-- the bytes there
abbrev pub source_bytes : List ℕ → List ℕ → ℕ → Source → List ℕ
source_bytes s c r (in_set i) = take 12 (drop (8 + 14 * i) c)
source_bytes s c r in_table = take 12 (drop (12 + 12 * r) s)
source_bytes s c r nowhere = []

-- and their place, the table lying at `home` and the set at `there`: a block of memory and a place in it
abbrev pub source_place : ℕ × ℕ → ℕ × ℕ → ℕ → Source → ℕ × ℕ
source_place home there r (in_set i) = (there.0, (8 + 14 * i) + there.1)
source_place home there r in_table = (home.0, (12 + 12 * r) + home.1)
source_place home there r nowhere = (home.0, 0 + home.1)

-- q is the row shown
pub record RowShown (s c : List ℕ) (r : ℕ) (q : List ℕ) : Type 0 where
  pub source : Source
  pub from : SourceOf s c r source
  pub bytes : q ≡ source_bytes s c r source

-- and lies there: the part handed back is the caller's own 12 bytes, and no copy
pub record PartShown (s : List ℕ) (home : ℕ × ℕ) (c : List ℕ) (there : ℕ × ℕ) (r : ℕ) (q : List ℕ) (place : ℕ × ℕ) :
    Type 0 where
  pub row : RowShown s c r q
  pub own : place ≡ source_place home there r row.source
