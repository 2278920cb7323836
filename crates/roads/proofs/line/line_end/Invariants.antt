-- `line_end` passes bytes up to the first line feed (proofs/Skipping).
use Rattle.roads.proofs.Skipping.{Skip}
use Rattle.roads.proofs.line.line_end.Given as goal

abbrev pub invariant-loop-i : goal.invariant-loop-i
invariant-loop-i l = Skip l.s l.at l.i
