-- `both` surveys the two texts and compares their counts (proofs/Agreeing).
use native.Mathlib.Omega.{arith}
use Rattle.roads.proofs.Agreeing.{unread_lengths, unread_weights, disagree, agree}
use Rattle.roads.proofs.whole.both.Goals as goal

pub returns-in_default : goal.returns-in_default
returns-in_default c = unread_lengths (rw c.in_default.is at c.survey_of.ensures)

pub returns-in_default-survey_of : goal.returns-in_default-survey_of
returns-in_default-survey_of c = unread_weights (rw c.in_default-survey_of.is at c.survey_of-2.ensures)

pub returns-then-lengths-weights : goal.returns-then-lengths-weights
returns-then-lengths-weights c =
    let differ = c.then-lengths-weights.either in
    disagree (omega arith) (omega arith) c.in-Some.ensures c.in-Some-survey_of.ensures (λ e f g h. omega arith)

pub returns : goal.returns
returns c =
    agree (omega arith) (omega arith) c.in-Some.ensures c.in-Some-survey_of.ensures (omega arith) (omega arith) (omega
    arith) (omega arith)
