-- `vet::go_on` tests 13 and 32 in order, then gives the verdict.
use native.Mathlib.Omega.{arith}
use mir.Syntax.{w64}
use mir.ValLaws.{to_z-of_z}
use Rattle.table.specs.Refuse.{refused, passed}
use Rattle.vet.proofs.go_on.Goals as goal

pub returns-then-marks-n : goal.returns-then-marks-n
returns-then-marks-n c = refused (λ h. c.if-marks-n.true (omega (arith, c.from-n.ensures)))

pub returns-then-list-ne0 : goal.returns-then-list-ne0
returns-then-list-ne0 c = passed (omega (arith, c.from-n.ensures)) (refused (λ h. omega (arith, c.if-list-ne0.true)))

pub returns : goal.returns
returns c =
    let from-ensures = c.from-n.ensures in
    let args = c.args in
    let fits = c.ranges in
    let e = to_z-of_z w64 args.floor fits.floor in
    passed (omega (arith, from-ensures)) (passed (omega arith) (rw e at c.verdict.ensures))
