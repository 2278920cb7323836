-- `first_lack`: first nodes in turn, up to the one known to have a pair that is lacking.
use Rattle.vetting.specs.work.Lacks.{InSet, CoveredBelow}
use Rattle.vetting.specs.work.Lines.{InBlock}
use Rattle.vetting.specs.work.Meant.{MeantOf}
use Rattle.vetting.proofs.lacks.first_lack.Given as goal

abbrev pub invariant-loop-low : goal.invariant-loop-low
invariant-loop-low l =
    CoveredBelow (MeantOf l.pairs) (InSet l.pairs.n l.from l.bits) l.pairs.n (InBlock l.pairs.n l.from l.end) l.low
