use native.Mathlib.Omega.{arith}
use Rattle.changeset.proofs.entries.find.Goals as goal

pub returns : goal.returns
returns c = λ i h. c.loop-i.invariant i (omega (arith, c.count-i-end.ensures.all i h))
