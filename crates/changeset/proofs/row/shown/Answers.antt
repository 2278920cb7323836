use Rattle.std.proofs.Common.{rules}
-- `shown`: the table's part tells whether the row stands, and the search which entry is for it.
use mathlib.Core.Path.{sym, ◌∙◌}
use borrow.Author.Tests.{eqb-true}
use Rattle.changeset.proofs.Showing.{shown_none, shown_entry, shown_own}
use Rattle.changeset.proofs.row.shown.Goals as goal

pub returns-then-is_empty : goal.returns-then-is_empty
returns-then-is_empty c =
    shown_none c.row_part-own.ensures _ _ (eqb-true _ 0 (sym c.is_empty.ensures ∙ c.if-is_empty.true))

pub returns-in-Some : goal.returns-in-Some
returns-in-Some c =
    shown_entry c.row_part-own.ensures _ _ (λ e. search rules) _ c.in-Some.ensures

pub returns-in-None : goal.returns-in-None
returns-in-None c =
    shown_own c.row_part-own.ensures _ _ (λ e. search rules) c.in-None.ensures
