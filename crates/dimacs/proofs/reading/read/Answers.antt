-- `read`: 25 and 26 are handed on, and two texts that agree go on to 27.
use Rattle.roads.proofs.Agreeing.{refused_on, both_say}
use Rattle.dimacs.proofs.reading.read.Goals as goal

pub trade-requires : goal.trade-requires
trade-requires c = both_say c.in-Ok.ensures

pub returns-in-Err : goal.returns-in-Err
returns-in-Err c = rw c.rowless.ensures (refused_on c.in-Err.ensures)
