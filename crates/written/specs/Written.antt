-- What is written of a table's rows: the p line, then each row's arc and its opposite, in row order; no comment. Rows
-- have one text (`written_only`, proofs/Only).
use Rattle.std.specs.Prelude.{List, [], ◌∷◌, ◌++◌, ℕ, zero, suc, ◌+◌, ◌*◌}
use Rattle.table.specs.Bytes.{u16_at, u32_at}
use Rattle.roads.specs.Text.{Arc, Problem, ArcLine}

-- the same branch and number, the other way
abbrev pub opposite : Arc → Arc
opposite e = record { from = e.to; to = e.from; number = e.number }

-- the arcs of the first m rows, each followed by its opposite
unfoldable pub arcs_written : (ℕ → Arc) → ℕ → List Arc
arcs_written row zero = []
arcs_written row (suc m) = arcs_written row m ++ row m ∷ opposite (row m) ∷ []

-- lines of arcs alone
pub data ArcLines (top low n : ℕ) : List ℕ → List Arc → Type 0 where
  done : ArcLines top low n [] []
  arc : {s r : List ℕ} {e : Arc} {l : List Arc} → ArcLine top low n s e r → ArcLines top low n r l
      → ArcLines top low n s (e ∷ l)

-- t is the text of m rows over n nodes
pub record Written (top low n : ℕ) (row : ℕ → Arc) (m : ℕ) (t : List ℕ) : Type 0 where
  pub lines : List ℕ
  pub problem : Problem t n (2 * m) lines
  pub arcs : ArcLines top low n lines (arcs_written row m)

-- row r of a table of version 1 as an arc, with its length and with its weight
abbrev pub length_arc : List ℕ → ℕ → Arc
length_arc s r =
    record { from = u16_at s (12 + 12 * r) + 1; to = u16_at s (14 + 12 * r) + 1; number = u32_at s (16 + 12 * r) }

abbrev pub weight_arc : List ℕ → ℕ → Arc
weight_arc s r =
    record { from = u16_at s (12 + 12 * r) + 1; to = u16_at s (14 + 12 * r) + 1; number = u32_at s (20 + 12 * r) }
