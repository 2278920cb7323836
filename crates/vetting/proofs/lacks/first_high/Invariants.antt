-- `first_high`: second nodes in turn, up to the first whose pair is lacking.
use Rattle.vetting.specs.work.Lacks.{InSet, CoveredTo}
use Rattle.vetting.specs.work.Meant.{MeantOf}
use Rattle.vetting.proofs.lacks.first_high.Given as goal

abbrev pub invariant-loop-b : goal.invariant-loop-b
invariant-loop-b l = CoveredTo (MeantOf l.pairs) (InSet l.pairs.n l.from l.bits) l.b l.a
