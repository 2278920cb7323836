use mathlib.Core.Path.{◌∙◌}
use native.Mathlib.Omega.{arith}
use Rattle.text.proofs.Writing.{digits_before, digits_put}
use Rattle.text.proofs.put_number.Goals as goal

pub loop-j-preserved : goal.loop-j-preserved
loop-j-preserved c = digits_before _ _ _ _ (omega arith) ∙ c.loop-j.invariant

pub returns : goal.returns
returns c =
    let e = c.digits_of-k.ensures.0 in
    digits_put _ _ _ e (omega (arith, e)) (omega arith) c.loop-j.invariant
