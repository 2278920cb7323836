-- `one_free` meets its contract: by whether the mark is 0.
use Rattle.marks.proofs.Measuring.{one_of, none_of}
use mathlib.Core.Path.{sym}
use Rattle.marks.proofs.one_free.Goals as goal

pub returns-then-mark-eq-FREE : goal.returns-then-mark-eq-FREE
returns-then-mark-eq-FREE c = sym (one_of _ c.if-mark-eq-FREE.true)

pub returns-else-mark-eq-FREE : goal.returns-else-mark-eq-FREE
returns-else-mark-eq-FREE c = sym (none_of _ c.if-mark-eq-FREE.false)
