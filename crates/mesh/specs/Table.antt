-- The table of a clock mesh, version 3: the header is that of the other versions, but for 3, 4 and 6, and there may be
-- any number of rows. What a row says, and when it is good by itself, is as in version 1 (crates/table/specs).
use Rattle.std.specs.Prelude.{ℕ, ◌+◌, ◌-◌, ◌*◌, ◌/◌, ◌≤◌, ◌≡◌, List, length}
use Rattle.table.specs.Refuse.{Unless, FirstBad}
use Rattle.table.specs.Bytes.{byte_at}
use Rattle.table.specs.Header.{Lettered, version_of, nodes_of}
use Rattle.table.specs.Examine.{RowNumber}

-- how many rows of 12 bytes follow the header
abbrev pub rows_of : List ℕ → ℕ
rows_of s = (length s - 12) / 12

-- 1 to 6, and then as the rest says; no row is named
abbrev pub MeshHeader : (A : Type 0) → (ℕ → ℕ → A) → List ℕ → (A → Type 0) → A → Type 0
MeshHeader A refusal s rest =
    Unless A (refusal 1 0) (12 ≤ length s)
    (Unless A (refusal 2 0) (Lettered s)
    (Unless A (refusal 3 0) (version_of s ≡ 3)
    (Unless A (refusal 4 0) ((1 ≤ nodes_of s) × (nodes_of s ≤ 256))
    (Unless A (refusal 5 0) (byte_at s 7 ≡ 0)
    (Unless A (refusal 6 0) (length s ≡ 12 + 12 * rows_of s)
    rest)))))

-- 7 to 10 of all rows in order, the first bad row named
abbrev pub MeshRows : (A : Type 0) → (ℕ → ℕ → A) → List ℕ → ℕ → ℕ → (A → Type 0) → A → Type 0
MeshRows A refusal s n k = FirstBad A refusal k (RowNumber n s)
