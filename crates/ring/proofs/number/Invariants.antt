-- `number` meets its contract: the places below i are numbered.
use Rattle.ring.specs.work.Union.{Numbered}
use Rattle.ring.proofs.number.Given as goal

abbrev pub invariant-loop-i : goal.invariant-loop-i
invariant-loop-i l = Numbered l.i l.up
