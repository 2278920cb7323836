use native.Mathlib.Omega.{arith}
use Rattle.text.proofs.Decimals.{decimal_few}
use Rattle.text.proofs.Writing.{sizing_none, sizing_more, sizing_done}
use Rattle.text.proofs.digits_of.Goals as goal

pub loop-rest-init : goal.loop-rest-init
loop-rest-init c = sizing_none _

pub loop-rest-preserved : goal.loop-rest-preserved
loop-rest-preserved c = sizing_more c.loop-rest.invariant (omega arith)

pub returns : goal.returns
returns c =
    let e = sizing_done c.loop-rest.invariant (omega arith) in
    (e, omega (arith, e, decimal_few c.args.x (omega arith)))
