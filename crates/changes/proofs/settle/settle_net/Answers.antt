-- `changes::settle::settle_net` meets its contract: 13 and 14 as the tests have it, and then as `replace` says.
use Rattle.table.specs.Refuse.{refused, passed}
use native.Mathlib.Omega.{arith}
use Rattle.changes.proofs.settle.settle_net.Goals as goal

pub returns-then-marks-from : goal.returns-then-marks-from
returns-then-marks-from c = refused (λ e. omega (arith, c.if-marks-from.true, c.from.ensures, c.requires))

pub returns-then-not_a_run : goal.returns-then-not_a_run
returns-then-not_a_run c =
    let from-ensures = c.from.ensures in
    passed (omega (arith, c.if-marks-from.false, from-ensures))
    (refused (c.not_a_run.ensures.0 c.if-not_a_run.true))

pub replace-requires : goal.replace-requires
replace-requires c =
    let if1-left = c.if-marks-from.false in
    let from-ensures = c.from.ensures in
    let pre = c.requires in
    omega (arith, if1-left, from-ensures, pre)

pub shape_of-marks : goal.shape_of-marks
shape_of-marks c = c.replace.ensures.same_many

pub returns : goal.returns
returns c =
    let if2-left = c.if-not_a_run.false in
    let not-a-run-ensures = c.not_a_run.ensures in
    let if1-left = c.if-marks-from.false in
    let from-ensures = c.from.ensures in
    passed (omega (arith, if1-left, from-ensures))
    (passed (not-a-run-ensures.1 if2-left) c.replace.ensures)
