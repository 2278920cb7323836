-- `first_repeat`: a row's pair goes into the set, or is there, which makes the row the first that repeats one.
use Rattle.vetting.specs.work.Repeats.{Unrepeated}
use Rattle.vetting.proofs.repeats.first_repeat.Given as goal

abbrev pub invariant-loop-i : goal.invariant-loop-i
invariant-loop-i l = Unrepeated l.list l.n l.from l.end l.i l.bits
