-- `changes::commit` meets its contract: it settles by the run's number with the top bit set.
use Rattle.changes.proofs.commit.Goals as goal

pub returns : goal.returns
returns c = rw (← c.spend.ensures) c.settle.ensures
