-- `figures::bins::gaps` meets its contract: the invariant says that the table is right below place i, of whatever
-- list the tails are of.
use Prim.Native.Nat.{ℕ, ◌≤◌}
use mathlib.Core.List.{List}
use Rattle.figures.specs.work.Bins.{Tails, Gaps}
use Rattle.figures.proofs.bins.gaps.Given as goal

abbrev pub invariant-loop-i : goal.invariant-loop-i
invariant-loop-i l = (l.i ≤ 4096) × ((above : List ℕ) → Tails above 0 l.tail → Gaps above l.i l.gap)
