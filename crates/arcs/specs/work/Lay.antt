-- Rows laid into a table, by two chunks that hold all arcs of the two texts.
use Rattle.std.specs.Prelude.{ℕ, ◌+◌, ◌-◌, ◌/◌, ◌%◌, ◌≤◌, ◌<◌, ◌≡◌, ◌≢◌, List, length, Ok, Err}
use Rattle.std.proofs.lemmas.List.Edits.{sets}
use Rattle.arrays.specs.At.{at}
use Rattle.table.specs.Refuse.{Unless}
use Rattle.arcs.specs.Arcs.{Arcs, Paired, SameBranches}
use Rattle.arcs.specs.Made.{Earlier, Firsts, RowFields, BranchRows, rows_bytes}
use Rattle.arcs.specs.work.Look.{Verdict}
use Rattle.arcs.specs.work.Chunk.{arc_key, key_at, LastAt, WholeIn, Buckets}

-- the fields of the row of an arc of a chunk, its weight being another's number
abbrev pub arc_fields : ℕ → ℕ → RowFields
arc_fields arc other =
    record {
      a = arc / 4294967296 / 65536 - 1;
      b = arc / 4294967296 % 65536 - 1;
      length = arc % 4294967296;
      weight = other % 4294967296;
    }

-- the rows of the branches whose first arcs stand before arc j are in the table from byte 12 on; every other byte is as
-- it was
pub record RowsLaid (L M : Arcs) (j : ℕ) (old new : List ℕ) : Type 0 where
  pub firsts : List ℕ
  pub order : Firsts L j firsts
  pub rows : List RowFields
  pub each : BranchRows L M firsts rows
  pub is : new ≡ sets old 12 (rows_bytes rows)

-- 27 over both, 28, or the rows, where there is room for them
abbrev pub RowsMade : Arcs → Arcs → List ℕ → List ℕ → Verdict → Type 0
RowsMade L M old new =
    Unless Verdict (Err 27) (Paired L × Paired M)
    (Unless Verdict (Err 28) (SameBranches L M)
    (λ r. (r ≡ Ok tt) × (L.count ≤ 8190 → RowsLaid L M L.count old new)))

-- of the arcs below j, the places of those that are their branch's first are marked
pub record FirstsMarked (L : Arcs) (k : ℕ) (chunk : List ℕ) (j : ℕ) (seen : List ℕ) : Type 0 where
  pub long : length seen ≡ 8192
  pub marked : (i : ℕ) → i < k → at seen i ≢ 0 → (h : ℕ) × (h < j) × (arc_key L h ≡ key_at chunk i)
  pub every : (h i : ℕ) → h < j → ¬ Earlier L h → i < k → LastAt (key_at chunk) (arc_key L h) k (i + 1) → at seen i ≢ 0

-- what laying the rows asks: texts that have passed 27 and 28, each whole in a chunk, the second chunk chained
pub record LayReady (L M : Arcs) (m : ℕ) (lengths weights first next : List ℕ) : Type 0 where
  pub left : WholeIn L m lengths
  pub right : WholeIn M m weights
  pub paired : Paired L
  pub paired_too : Paired M
  pub same : SameBranches L M
  pub few : m ≤ 8190
  pub buckets : Buckets weights m first next
