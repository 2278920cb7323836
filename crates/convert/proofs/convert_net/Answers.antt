-- `convert::convert_net` meets its contract: 13 as the test has it, and then as `each_mark` says.
use native.Mathlib.Omega.{arith}
use Rattle.table.specs.Refuse.{refused, passed}
use Rattle.convert.proofs.convert_net.Goals as goal

pub returns-then-marks-from : goal.returns-then-marks-from
returns-then-marks-from c = refused (λ e. omega (arith, c.if-marks-from.true, c.from.ensures, c.requires))

pub returns : goal.returns
returns c = passed (omega (arith, c.if-marks-from.false, c.from.ensures)) c.each_mark.ensures
