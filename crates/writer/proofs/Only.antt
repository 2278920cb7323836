-- The promise of write row allows one outcome: along the list of refusals, and what is written is one row.
use Prim.Native.Nat.{ℕ}
use mathlib.Core.Path.{sym, ◌∙◌}
use mathlib.Core.List.{List}
use Rattle.table.specs.Refuse.{Only}
use Rattle.table.proofs.Refusals.{unless_only}
use Rattle.writer.specs.WriteRow.{WritesRow}

pub write_row_only : (a b wire kind count : ℕ) (before : List ℕ) → Only (WritesRow a b wire kind count before)
write_row_only a b wire kind count before =
    unless_only
    (unless_only
    (unless_only (unless_only (unless_only (unless_only (unless_only (λ x y p q. p ∙ sym q)))))))
