-- `find`: no entry passed is for the row.
use Prim.Native.Nat.{ℕ, ◌<◌}
use mathlib.Core.Path.{◌≡◌}
use Rattle.changeset.specs.Entries.{row_for}
use Rattle.changeset.proofs.entries.find.Given as goal

abbrev pub invariant-loop-i : goal.invariant-loop-i
invariant-loop-i l = (j : ℕ) → j < l.i → row_for l.c j ≡ l.row → ⊥
