-- Reading: a table of version 1 made of two road-graph texts, one with lengths and one with weights, the wire bound
-- being passed beside. Refusals 25 to 29 in order, each over both texts before the next, and then 1 to 11 on the table
-- made.
use Rattle.std.specs.Prelude.{ℕ, ◌≤◌, ◌≡◌, List, ◌++◌, length, drop, Result, Ok, Err}
use Rattle.table.specs.Refuse.{Unless}
use Rattle.tree.specs.Accept.{Begins}
use Rattle.roads.specs.Text.{Said}
use Rattle.roads.specs.Both.{Reads}
use Rattle.arcs.specs.Arcs.{arcs_of, Paired, SameBranches}
use Rattle.arcs.specs.Made.{TableOf}
use Rattle.tree.specs.declared.Refusal.{Refusal}

-- the size of the table made, or why not
abbrev pub ReadAnswer : Type 0
ReadAnswer = Result ℕ Refusal

abbrev pub read_refused : ℕ → ℕ → ℕ → ReadAnswer
read_refused k r g = Err (record { number = k; row = r; ring = g })

-- a refusal leaves the lent bytes as they were
abbrev pub read_refusal : List ℕ → ℕ → ℕ → ℕ → ReadAnswer × List ℕ
read_refusal old k r g = (read_refused k r g, old)

-- the table in the lent bytes, those beyond it as they were, and its size
abbrev pub GivesTable : List ℕ → List ℕ → ReadAnswer × List ℕ → Type 0
GivesTable old t o = o ≡ (Ok (length t), t ++ drop (length t) old)

-- the table that two texts make: 29, and then 1 to 11 on it
pub record MakesTable (a b : Said) (bound : ℕ) (old : List ℕ) (o : ReadAnswer × List ℕ) : Type 0 where
  pub table : List ℕ
  pub made : TableOf a b bound table
  pub outcome : Unless (ReadAnswer × List ℕ) (read_refusal old 29 0 0) (length table ≤ length old)
      (Begins (ReadAnswer × List ℕ) (read_refusal old) table (GivesTable old table)) o

-- 27 over both texts, then 28, then the table
abbrev pub Trades : Said → Said → ℕ → List ℕ → ReadAnswer × List ℕ → Type 0
Trades a b bound old =
    Unless (ReadAnswer × List ℕ) (read_refusal old 27 0 0) (Paired (arcs_of a.arcs) × Paired (arcs_of b.arcs))
    (Unless (ReadAnswer × List ℕ) (read_refusal old 28 0 0) (SameBranches (arcs_of a.arcs) (arcs_of b.arcs))
    (MakesTable a b bound old))

abbrev pub ReadOf : List ℕ → List ℕ → ℕ → List ℕ → ReadAnswer × List ℕ → Type 0
ReadOf lengths weights bound old =
    Reads (ReadAnswer × List ℕ) (λ k. read_refusal old k 0 0) lengths weights (λ a b. Trades a b bound old)
