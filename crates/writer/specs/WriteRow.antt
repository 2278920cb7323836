-- The operation write row: one row of version 2 into 12 lent bytes. Refusals 7, 8, 9, 22, 35, 23 and 39, in this order;
-- each names row 0. It leaves an answer and the lent bytes.
use Rattle.std.specs.Prelude.{ℕ, ◌≤◌, ◌<◌, ◌≡◌, List, ◌++◌, ◌≢◌, length, Result, Ok, Err}
use Rattle.table.specs.Refuse.{Unless}
use Rattle.numbers.specs.Bytes.{bytes}
use Rattle.table.specs.declared.Refusal.{Refusal}

-- the row is written, or why not
abbrev pub RowAnswer : Type 0
RowAnswer = Result (Unit {0}) Refusal

-- kinds 24 to 31 are filler, which is no longer placed as spare: retired
abbrev pub Filler : ℕ → Type 0
Filler kind = (24 ≤ kind) × (kind ≤ 31)

-- node, node (16 bits each), length (32 bits), kind, count (16 bits each): 12 bytes
unfoldable pub cell_row : ℕ → ℕ → ℕ → ℕ → ℕ → List ℕ
cell_row a b wire kind count = bytes 2 a ++ bytes 2 b ++ bytes 4 wire ++ bytes 2 kind ++ bytes 2 count

-- a refusal leaves the lent bytes as they were
abbrev pub row_refusal : List ℕ → ℕ → RowAnswer × List ℕ
row_refusal before k = (Err (record { number = k; row = 0 }), before)

-- a node may be any that some table has
abbrev pub WritesRow : ℕ → ℕ → ℕ → ℕ → ℕ → List ℕ → RowAnswer × List ℕ → Type 0
WritesRow a b wire kind count before =
    Unless (RowAnswer × List ℕ) (row_refusal before 7) ((a ≤ 4095) × (b ≤ 4095))
    (Unless (RowAnswer × List ℕ) (row_refusal before 8) (a ≢ b)
    (Unless (RowAnswer × List ℕ) (row_refusal before 9) (wire ≤ 1000000)
    (Unless (RowAnswer × List ℕ) (row_refusal before 22) (kind < 64)
    (Unless (RowAnswer × List ℕ) (row_refusal before 35) (Filler kind → ⊥)
    (Unless (RowAnswer × List ℕ) (row_refusal before 23) (count ≤ 20000)
    (Unless (RowAnswer × List ℕ) (row_refusal before 39) (length before ≡ 12)
    (λ x. x ≡ (Ok tt, cell_row a b wire kind count))))))))
