-- `arc_line` reads the word, two nodes and a number, each where the one before it ended (proofs/Reading).
use native.Mathlib.Omega.{arith}
use Rattle.text.specs.Word.{word}
use Rattle.roads.proofs.Reading.{arc_no_word, arc_no_from, arc_no_to, arc_no_number, arc_found}
use Rattle.roads.proofs.Bounds.{bounded_high, number_small}
use Rattle.roads.proofs.line.arc_line.Goals as goal

pub returns-in_err-i : goal.returns-in_err-i
unfolding word
returns-in_err-i c = rw c.from_residual.ensures (arc_no_word c.in_err-i.ensures)

pub returns-in_err-from : goal.returns-in_err-from
unfolding word
returns-in_err-from c =
    rw c.from_residual-in_err-from.ensures (arc_no_from c.in_ok-i.ensures (rw c.from-most.ensures at
    c.in_err-from.ensures))

pub returns-in_err-to : goal.returns-in_err-to
unfolding word
returns-in_err-to c =
    rw c.from_residual-in_err-to.ensures
    (arc_no_to c.in_ok-i.ensures (rw c.from-most.ensures at c.in_ok-from.ensures) (rw c.from-most.ensures at
    c.in_err-to.ensures))

pub returns-in_err-number : goal.returns-in_err-number
unfolding word
returns-in_err-number c =
    rw c.from_residual-in_err-number.ensures
    (arc_no_number c.in_ok-i.ensures (rw c.from-most.ensures at c.in_ok-from.ensures) (rw c.from-most.ensures at
    c.in_ok-to.ensures) c.in_err-number.ensures)

pub overflow_cast-result : goal.overflow_cast-result
overflow_cast-result c = omega (arith, bounded_high c.in_ok-from.ensures)

pub overflow_cast-result-2 : goal.overflow_cast-result-2
overflow_cast-result-2 c = omega (arith, bounded_high c.in_ok-to.ensures)

pub overflow_cast-result-3 : goal.overflow_cast-result-3
overflow_cast-result-3 c = omega (arith, number_small c.in_ok-number.ensures)

pub returns : goal.returns
unfolding word
returns c =
    arc_found c.in_ok-i.ensures (rw c.from-most.ensures at c.in_ok-from.ensures) (rw c.from-most.ensures at
    c.in_ok-to.ensures) c.in_ok-number.ensures
