-- `next_arc` passes comments and reads the line of an arc (`step_read`, proofs/Stepping).
use Rattle.roads.proofs.Stepping.{step_read}
use Rattle.roads.proofs.whole.next_arc.Goals as goal

pub returns : goal.returns
returns c = step_read c.past_comments.ensures c.arc_line.ensures
