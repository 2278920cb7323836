-- Convert's promise allows one outcome: along the list of refusals, a row has one number, and nothing else is given.
use mathlib.Core.Path.{refl, sym, ◌∙◌}
use mathlib.Core.List.{List}
use Prim.Native.Nat.{ℕ}
use Rattle.table.specs.Refuse.{Only}
use Rattle.table.proofs.Refusals.{unless_only, first_bad_only}
use Rattle.tree.proofs.Begins.{begins_only}
use Rattle.convert.specs.Convert.{conversion_refusal, MarkNumber, GivesMarks, Converts}
use Rattle.std.specs.Prelude.{Ok, Err}

number_only : (marks : List ℕ) (r : ℕ) → Only (MarkNumber marks r)
number_only marks r = unless_only (λ x y e f. e ∙ sym f)

gives_only : (marks : List ℕ) → Only (GivesMarks marks)
gives_only marks (Ok one) (Ok other) p q = refl
gives_only marks (Ok one) (Err why) p q = absurd q
gives_only marks (Err why) y p q = absurd p

pub convert_only : (s marks : List ℕ) → Only (Converts s marks)
convert_only s marks =
    begins_only conversion_refusal s (unless_only (first_bad_only (number_only marks) (gives_only marks)))
