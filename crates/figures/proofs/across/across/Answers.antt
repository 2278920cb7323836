-- `figures::across::across` meets its contract: the least spot is where the climbs meet.
use Rattle.figures.proofs.Valuing.{joins_of}
use Rattle.figures.proofs.across.across.Goals as goal

pub returns : goal.returns
returns c = joins_of c.requires.figurable c.requires.order c.requires.node c.least-m.ensures
