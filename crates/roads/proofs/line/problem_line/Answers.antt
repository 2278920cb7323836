-- `problem_line` reads the word and the two counts, each where the one before it ended (proofs/Reading).
use native.Mathlib.Omega.{arith}
use Rattle.text.specs.Word.{word}
use Rattle.roads.proofs.Reading.{problem_no_word, problem_no_nodes, problem_no_count, problem_found}
use Rattle.roads.proofs.Bounds.{bounded_high}
use Rattle.roads.proofs.line.problem_line.Goals as goal

pub returns-in_err-i : goal.returns-in_err-i
unfolding word
returns-in_err-i c = rw c.from_residual.ensures (problem_no_word c.in_err-i.ensures)

pub returns-in_err-nodes : goal.returns-in_err-nodes
unfolding word
returns-in_err-nodes c =
    rw c.from_residual-in_err-nodes.ensures (problem_no_nodes c.in_ok-i.ensures c.in_err-nodes.ensures)

pub returns-in_err-count : goal.returns-in_err-count
unfolding word
returns-in_err-count c =
    rw c.from_residual-in_err-count.ensures
    (problem_no_count c.in_ok-i.ensures c.in_ok-nodes.ensures c.in_err-count.ensures)

pub overflow_cast-result : goal.overflow_cast-result
overflow_cast-result c = omega (arith, bounded_high c.in_ok-nodes.ensures)

pub returns : goal.returns
unfolding word
returns c = problem_found c.in_ok-i.ensures c.in_ok-nodes.ensures c.in_ok-count.ensures
