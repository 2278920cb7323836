-- `leads` meets its contract: an even half-branch leads to the second end of its row, an odd one to the first.
use mathlib.Core.Path.{sym, ◌∙◌}
use Rattle.reach.proofs.Chained.{from_even, from_odd}
use Rattle.reach.proofs.leads.Goals as goal

pub returns-then-h-eq0 : goal.returns-then-h-eq0
returns-then-h-eq0 c = c.second_end.ensures ∙ sym (from_even _ _ _ c.if-h-eq0.true)

pub returns : goal.returns
returns c = c.first_end.ensures ∙ sym (from_odd _ _ _ c.if-h-eq0.false)
