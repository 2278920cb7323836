-- `arc_number` reads a number after a minus, or one without (proofs/Bounds).
use native.Mathlib.Omega.{arith}
use Rattle.roads.proofs.Bounds.{number_out, number_read, negative_read, negative_none}
use Rattle.roads.proofs.number.arc_number.Goals as goal

pub returns-in_err-get : goal.returns-in_err-get
returns-in_err-get c =
    let past = c.in_err-get.ensures.lookup in
    rw c.from_residual.ensures (number_out (omega arith))

pub returns-then-branch-ne-MINUS : goal.returns-then-branch-ne-MINUS
returns-then-branch-ne-MINUS c =
    let first = c.in_ok-get.ensures.lookup in
    number_read (omega arith) (omega arith) (omega (arith, first.3.1 0)) c.bounded.ensures

pub returns-in_err-value : goal.returns-in_err-value
returns-in_err-value c =
    let first = c.in_ok-get.ensures.lookup in
    rw c.from_residual-in_err-value.ensures
    (negative_none (omega arith) (omega (arith, first.3.1 0)) c.in_err-value.ensures)

pub returns : goal.returns
returns c =
    let first = c.in_ok-get.ensures.lookup in
    negative_read (omega arith) (omega (arith, first.3.1 0)) (omega arith) c.in_ok-value.ensures
