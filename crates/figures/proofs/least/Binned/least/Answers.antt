-- `Binned::least` meets its contract: in one bin by the scan, else by a tail, the bins between and a front.
use Rattle.figures.proofs.Leasts.{search_far}
use Rattle.figures.proofs.least.Binned.least.Goals as goal

pub returns : goal.returns
returns c = search_far c.requires c.from-2.ensures c.if-a-b.false c.min.ensures c.min-2.ensures
