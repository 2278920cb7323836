-- Rows, numbered from 0: where the 12 bytes of a row stand, what they say, and what a reader hands back there.
use Rattle.std.specs.Prelude.{◌≡◌, cond, List, [], ℕ, ◌+◌, ◌*◌, ◌≤◌, eqb, length, take, drop, ℤ, pos, ◌*ℤ◌}
use Rattle.std.specs.Int.{w32}
use Rattle.std.proofs.Common.{to_z}
use Rattle.table.specs.Bytes.{u16_at, u32_at}
use Rattle.table.specs.Header.{version_of}
use Rattle.table.specs.Scores.{score_of}
use Rattle.table.specs.declared.Row.{Row}

-- 12 bytes stand from place 12 + 12 × r on
abbrev pub Stands : List ℕ → ℕ → Type 0
Stands s r = 24 + 12 * r ≤ length s

-- the part handed back at row r, its bytes q and where they lie, the table lying at `home`: a place is a block of
-- memory and a place in it. So the part is the caller's own 12 bytes, and no copy
pub record PartOf (s : List ℕ) (home : ℕ × ℕ) (r : ℕ) (q : List ℕ) (place : ℕ × ℕ) : Type 0 where
  pub bytes : Stands s r → q ≡ take 12 (drop (12 + 12 * r) s)
  pub own : Stands s r → place ≡ (home.0, (12 + 12 * r) + home.1)
  pub none : (Stands s r → ⊥) → q ≡ []
  pub none_at : (Stands s r → ⊥) → place ≡ (home.0, 0 + home.1)

-- the next row to stand at: one on, or the same where no row stands
pub record NextOf (s : List ℕ) (r q : ℕ) : Type 0 where
  pub moves : Stands s r → q ≡ r + 1
  pub stays : (Stands s r → ⊥) → q ≡ r

-- the last four bytes of a row of version 2: a kind and a count
abbrev pub kind_at : List ℕ → ℕ → ℕ
kind_at s r = u16_at s (20 + 12 * r)

abbrev pub count_at : List ℕ → ℕ → ℕ
count_at s r = u16_at s (22 + 12 * r)

-- which weigh count times score; in a table of any other version they are the weight, in two's complement
abbrev pub weight_at : List ℕ → ℕ → ℤ
weight_at s r =
    cond (eqb (version_of s) 2) (pos (count_at s r) *ℤ score_of (kind_at s r)) (to_z w32 (u32_at s (20 + 12 * r)))

-- a row's four numbers: node, node, length, weight
abbrev pub row_at : List ℕ → ℕ → Row
row_at s r =
    record {
      a = u16_at s (12 + 12 * r);
      b = u16_at s (14 + 12 * r);
      length = u32_at s (16 + 12 * r);
      weight = weight_at s r;
    }

abbrev pub no_row : Row
no_row = record { a = 0; b = 0; length = 0; weight = pos 0 }

-- a decoded row: those of the table, or all 0 where none stands
pub record RowOf (s : List ℕ) (r : ℕ) (q : Row) : Type 0 where
  pub there : Stands s r → q ≡ row_at s r
  pub none : (Stands s r → ⊥) → q ≡ no_row
