-- A change set: the letters RTN, version, 16 bits, 1, and one byte, 1, as its sort; then entries of 14 bytes, a row
-- number of 16 bits and that row's 12 bytes. What refusals 33 and 34 ask of it.
use Rattle.std.specs.Prelude.{◌≡◌, List, ℕ, ◌+◌, ◌*◌, ◌≤◌, ◌<◌, length}
use Rattle.table.specs.Bytes.{byte_at, u16_at}
use Rattle.table.specs.Header.{Lettered, version_of}

-- 33: letters, version and sort, and a size of 6 plus a multiple of 14
pub record Formed (c : List ℕ) : Type 0 where
  pub letters : Lettered c
  pub version : version_of c ≡ 1
  pub sort : byte_at c 5 ≡ 1
  pub entries : ℕ
  pub size : length c ≡ 6 + 14 * entries

-- entry i is there: 14 bytes stand from place 6 + 14 × i on
abbrev pub HasEntry : List ℕ → ℕ → Type 0
HasEntry c i = 20 + 14 * i ≤ length c

-- the row that entry i is for
abbrev pub row_for : List ℕ → ℕ → ℕ
row_for c i = u16_at c (6 + 14 * i)

-- 34: in a table of n nodes, row numbers rise and are below n − 1
pub record RowsRise (n : ℕ) (c : List ℕ) : Type 0 where
  pub rise : (i j : ℕ) → i < j → HasEntry c j → row_for c i < row_for c j
  pub below : (i : ℕ) → HasEntry c i → row_for c i + 1 < n
