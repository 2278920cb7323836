-- The rows' refusals 7 to 10, 22 and 23, row by row, and how everything that begins with a table's own tests begins.
use Rattle.std.specs.Prelude.{◌≡◌, List, ◌≢◌, ℕ, ◌-◌, ◌≤◌, ◌<◌}
use Rattle.table.specs.Refuse.{Unless, FirstBad}
use Rattle.table.specs.Header.{Header, version_of, nodes_of}
use Rattle.table.specs.Row.{row_at, kind_at, count_at}
use Rattle.table.specs.Signed.{InRange}

-- k is the first of these that row r meets in a net of n nodes, 0 where it meets none. For a row of version 2, 22 and
-- 23 stand where 10 stands for any other
abbrev pub RowNumber : ℕ → List ℕ → ℕ → ℕ → Type 0
RowNumber n s r =
    Unless ℕ 7 (((row_at s r).a < n) × ((row_at s r).b < n))
    (Unless ℕ 8 ((row_at s r).a ≢ (row_at s r).b)
    (Unless ℕ 9 ((row_at s r).length ≤ 1000000)
    (Unless ℕ 10 (version_of s ≢ 2 → InRange (row_at s r).weight)
    (Unless ℕ 22 (version_of s ≡ 2 → kind_at s r < 64)
    (Unless ℕ 23 (version_of s ≡ 2 → count_at s r ≤ 20000)
    (λ k. k ≡ 0))))))

-- the n − 1 rows in order, the first bad row named
abbrev pub RowsTested : (A : Type 0) → (ℕ → ℕ → A) → List ℕ → ℕ → (A → Type 0) → A → Type 0
RowsTested A refusal s n = FirstBad A refusal (n - 1) (RowNumber n s)

-- 1 to 10, 22 and 23, and then as the rest says: how every operation over a table begins
abbrev pub Tested : (A : Type 0) → (ℕ → ℕ → A) → List ℕ → (A → Type 0) → A → Type 0
Tested A refusal s rest = Header A refusal s (RowsTested A refusal s (nodes_of s) rest)
