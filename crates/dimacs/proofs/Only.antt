-- Reading and writing allow one outcome each: a text says one thing at the most, two texts whose arcs are paired make
-- one table, and rows have one text.
use Prim.Native.Nat.{ℕ}
use mathlib.Core.Path.{◌≡◌, sym, ◌∙◌}
use mathlib.Core.List.{List}
use native.Mathlib.Omega.{arith}
use Rattle.std.specs.Prelude.{Result, Ok}
use Rattle.table.specs.Refuse.{Only}
use Rattle.table.specs.Header.{nodes_of}
use Rattle.table.proofs.Refusals.{unless_only, unless_good_only}
use Rattle.tree.proofs.Begins.{begins_only}
use Rattle.roads.specs.Text.{Said}
use Rattle.roads.proofs.Only.{reads_only}
use Rattle.arcs.specs.Made.{TableOf}
use Rattle.arcs.proofs.Theorems.{table_only}
use Rattle.written.proofs.Only.{written_only}
use Rattle.tree.specs.declared.Refusal.{Refusal}
use Rattle.dimacs.specs.Read.{read_refusal, MakesTable, Trades, ReadOf}
use Rattle.dimacs.specs.Write.{write_refusal, GivesTexts, version_refusal, VersionOne, WriteOf}

makes_only : (a b : Said) (bound : ℕ) (old : List ℕ) → Only (TableOf a b bound) → Only (MakesTable a b bound old)
makes_only a b bound old one x y p q =
    unless_only (begins_only (read_refusal old) p.table (λ _ _ e f. e ∙ sym f)) x y p.outcome
    (rw (one q.table p.table q.made p.made) at q.outcome)

pub trades_only : (a b : Said) (bound : ℕ) (old : List ℕ) → Only (Trades a b bound old)
trades_only a b bound old =
    unless_good_only (λ p. unless_only (makes_only a b bound old (table_only {a = a} {b = b} p.1)))

-- READ HAS ONE OUTCOME
pub read_only : (lengths weights : List ℕ) (bound : ℕ) (old : List ℕ) → Only (ReadOf lengths weights bound old)
read_only lengths weights bound old = reads_only (λ a b. trades_only a b bound old)

texts_only : (s : List ℕ) (n : ℕ) (lengths weights : List ℕ) → Only (GivesTexts s n lengths weights)
texts_only s n lengths weights x y p q =
    unless_only (λ _ _ e f. e ∙ sym f) x y p.outcome
    (rw (written_only (omega arith) q.long_is p.long_is, written_only (omega arith) q.heavy_is p.heavy_is)
    at q.outcome)

-- what it begins with gives one outcome
pub version_one_only : (s : List ℕ) → Only (VersionOne (Result Unit Refusal) version_refusal s (λ x. x ≡ Ok tt))
version_one_only s = unless_only (unless_only (unless_only (λ _ _ e f. e ∙ sym f)))

-- WRITE HAS ONE OUTCOME
pub write_only : (s lengths weights : List ℕ) → Only (WriteOf s lengths weights)
write_only s lengths weights =
    unless_only
    (unless_only
    (unless_only (begins_only (write_refusal lengths weights) s (texts_only s (nodes_of s) lengths weights))))
