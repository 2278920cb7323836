-- `leaves` meets its contract: an even half-branch leaves the first end of its row, an odd one the second.
use mathlib.Core.Path.{sym, ◌∙◌}
use Rattle.reach.proofs.Chained.{from_even, from_odd}
use Rattle.reach.proofs.leaves.Goals as goal

pub returns-then-h-eq0 : goal.returns-then-h-eq0
returns-then-h-eq0 c = c.first_end.ensures ∙ sym (from_even _ _ _ c.if-h-eq0.true)

pub returns : goal.returns
returns c = c.second_end.ensures ∙ sym (from_odd _ _ _ c.if-h-eq0.false)
