-- From what the arcs say to reading's promise: 27 and 28 as they were decided, then the table that is made, with room
-- or without.
use Prim.Native.Nat.{ℕ, ◌≤◌, ◌<◌}
use mathlib.Core.List.{List}
use native.Mathlib.Omega.{arith}
use lib.ListN.{length}
use Rattle.std.proofs.Common.{Ok, Err}
use Rattle.table.specs.Refuse.{Unless, refused, passed}
use Rattle.tree.specs.Accept.{Begins}
use Rattle.roads.specs.Text.{Said}
use Rattle.arcs.specs.Arcs.{arcs_of, Paired, SameBranches}
use Rattle.arcs.specs.Made.{TableOf}
use Rattle.arcs.specs.work.Look.{Verdict}
use Rattle.dimacs.specs.Read.{ReadAnswer, read_refusal, GivesTable, MakesTable, Trades}

module _ (a b : Said) where
  -- 27, 28, or as the rest says
  abbrev pub Matched : (Verdict → Type 0) → Verdict → Type 0
  Matched rest =
      Unless Verdict (Err 27) (Paired (arcs_of a.arcs) × Paired (arcs_of b.arcs))
      (Unless Verdict (Err 28) (SameBranches (arcs_of a.arcs) (arcs_of b.arcs)) rest)

  pub record Alike (P : Type 0) : Type 0 where
    pub lengths : Paired (arcs_of a.arcs)
    pub weights : Paired (arcs_of b.arcs)
    pub same : SameBranches (arcs_of a.arcs) (arcs_of b.arcs)
    pub rest : P

  pub alike : {rest : Verdict → Type 0} → Matched rest (Ok tt) → Alike (rest (Ok tt))
  alike (passed p (passed q r)) = record { lengths = p.0; weights = p.1; same = q; rest = r }

  module _ (bound : ℕ) (old : List ℕ) where
    pub unlike : {rest : Verdict → Type 0} {k : ℕ} → Matched rest (Err k) → (rest (Err k) → ⊥)
        → Trades a b bound old (read_refusal old k 0 0)
    unlike (refused c) n = refused c
    unlike (passed p (refused c)) n = passed p (refused c)
    unlike (passed p (passed q r)) n = absurd (n r)

    pub goes_on : {P : Type 0} {o : ReadAnswer × List ℕ} → Alike P → MakesTable a b bound old o
        → Trades a b bound old o
    goes_on m t = passed (m.lengths, m.weights) (passed m.same t)

    module _ (t : List ℕ) (made : TableOf a b bound t) where
      pub no_room : length old < length t → MakesTable a b bound old (read_refusal old 29 0 0)
      no_room h = record { table = t; made = made; outcome = refused (λ g. omega (arith, g, h)) }

      pub has_room : {o : ReadAnswer × List ℕ} → length t ≤ length old
          → Begins (ReadAnswer × List ℕ) (read_refusal old) t (GivesTable old t) o → MakesTable a b bound old o
      has_room h p = record { table = t; made = made; outcome = passed h p }
