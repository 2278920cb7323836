-- `changes::settle::replace` meets its contract. The loop's invariant: marks behind that the run held have become `to`,
-- all others are as they were, k counts the former.
use Rattle.changes.proofs.Replacing.{Replacing}
use Rattle.changes.proofs.settle.replace.Given as goal

abbrev pub invariant-loop-mark : goal.invariant-loop-mark
invariant-loop-mark l = Replacing l.run l.to l.initial.marks l.mark-index l.k l.marks
