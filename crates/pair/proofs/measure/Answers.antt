-- `measure` meets its contract: 13, then 15 by each of its conditions, then the path.
use Rattle.table.specs.Refuse.{refused, passed}
use native.Mathlib.Omega.{arith}
use Rattle.pair.proofs.measure.Goals as goal

pub returns-then-marks-n : goal.returns-then-marks-n
returns-then-marks-n c = refused (λ h. c.if-marks-n.true (omega (arith, c.from-n.ensures)))

pub returns-then-nodes-a : goal.returns-then-nodes-a
returns-then-nodes-a c =
    passed (omega (arith, c.from-n.ensures))
    (refused (λ t. omega (arith, t.first, t.second, t.apart, c.then-nodes-a.either)))

pub show-requires : goal.show-requires
show-requires c =
    let pre = c.requires in
    let e = c.from-n.ensures in
    (pre, omega arith, record { first = omega arith; second = omega arith; apart = λ e. omega (arith, e) })

pub returns : goal.returns
returns c =
    let from-ensures = c.from-n.ensures in
    passed (omega (arith, from-ensures))
    (passed (record { first = omega arith; second = omega arith; apart = λ e. omega (arith, e) }) c.show.ensures)
