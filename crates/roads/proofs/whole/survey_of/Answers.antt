-- `survey_of` passes comments, reads the p line and counts the arcs after it (proofs/Surveying).
use Rattle.roads.proofs.Surveying.{survey_headless, survey_broken, survey_whole}
use Rattle.roads.proofs.whole.survey_of.Goals as goal

pub returns-in_err-problem : goal.returns-in_err-problem
returns-in_err-problem c =
    rw c.from_residual.ensures (survey_headless c.past_comments.ensures c.in_err-problem.ensures)

pub returns-in_err-arcs : goal.returns-in_err-arcs
returns-in_err-arcs c =
    rw c.from_residual-in_err-arcs.ensures
    (survey_broken c.past_comments.ensures c.in_ok-problem.ensures c.in_err-arcs.ensures)

pub returns : goal.returns
returns c = survey_whole c.past_comments.ensures c.in_ok-problem.ensures c.in_ok-arcs.ensures
