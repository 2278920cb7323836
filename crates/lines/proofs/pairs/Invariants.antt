-- `pairs` puts the line of each row after the lines of the rows before it.
use Rattle.lines.proofs.Lining.{Lining}
use Rattle.lines.proofs.pairs.Given as goal

abbrev pub invariant-loop-i : goal.invariant-loop-i
invariant-loop-i l = Lining l.initial.out l.rows l.from l.upto l.out l.at l.i
