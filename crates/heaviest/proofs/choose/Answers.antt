-- `heaviest::choose` meets its contract: 13 by the number of marks; `none` where the best pair's weight is 0, for then
-- no pair fits the limit; else the best pair's fields, lowered.
use mathlib.Core.Logic.{◌≢◌}
use native.Mathlib.Omega.{arith}
use mir.Syntax.{w64}
use mir.ValLaws.{to_z-of_z}
use Rattle.table.specs.Refuse.{refused, passed}
use Rattle.limits.proofs.Tests.{fits_most}
use Rattle.heaviest.proofs.FromBest.{none_within, nodes_fit, length_fits, weight_fits, run_given}
use Rattle.heaviest.proofs.choose.Goals as goal

pub returns-then-marks-n : goal.returns-then-marks-n
returns-then-marks-n c =
    (refused (λ h. c.if-marks-n.true (omega (arith, c.from-n.ensures))))

pub returns-then-b-eq0 : goal.returns-then-b-eq0
returns-then-b-eq0 c =
    let from-ensures = c.from-n.ensures in
    let args = c.args in
    (passed (omega (arith, from-ensures))
    (refused (none_within _ args.marks.now c.requires.net c.search-b.ensures (omega arith))))

pub overflow_cast-low : goal.overflow_cast-low
overflow_cast-low c =
    let search-ensures = c.search-b.ensures in
    let args = c.args in
    omega (arith, nodes_fit _ args.marks.now c.requires.net search-ensures c.requires.net.few (omega arith))

pub overflow_cast-high : goal.overflow_cast-high
overflow_cast-high c =
    let search-ensures = c.search-b.ensures in
    let args = c.args in
    omega (arith, nodes_fit _ args.marks.now c.requires.net search-ensures c.requires.net.few (omega arith))

pub overflow_sub-length : goal.overflow_sub-length
overflow_sub-length c =
    let search-ensures = c.search-b.ensures in
    let args = c.args in
    omega (arith, (length_fits _ args.marks.now c.requires.net search-ensures (omega arith)).0)

pub overflow_cast-length : goal.overflow_cast-length
overflow_cast-length c =
    let search-ensures = c.search-b.ensures in
    let args = c.args in
    let l = length_fits _ args.marks.now c.requires.net search-ensures (omega arith) in
    omega (arith, l.0, fits_most args.limit _ l.1, c.requires.most_bound)

pub overflow_add-b : goal.overflow_add-b
overflow_add-b c =
    let search-ensures = c.search-b.ensures in
    let args = c.args in
    omega (arith, weight_fits _ args.marks.now c.requires.net search-ensures (omega arith))

pub overflow_sub-b : goal.overflow_sub-b
overflow_sub-b c =
    let search-ensures = c.search-b.ensures in
    let args = c.args in
    omega (arith, weight_fits _ args.marks.now c.requires.net search-ensures (omega arith))

pub returns : goal.returns
returns c =
    let search-ensures = c.search-b.ensures in
    let search-result = c.search-b.result in
    let if1-left = c.if-marks-n.false in
    let from-ensures = c.from-n.ensures in
    let args = c.args in
    let m : search-result.weight ≢ 0 = omega arith in
    let r = run_given _ args.marks.now c.requires.net search-ensures m _ c.lowered-weight.ensures in
    let e = to_z-of_z w64 c.lowered-weight.result (record { sfits = c.lowered-weight.type_inv }) in
    rw e (passed (omega (arith, if1-left, from-ensures)) (passed (_, r.one) r))
