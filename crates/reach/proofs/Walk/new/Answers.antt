-- `Walk::new` meets its contract: each array is made of zeros.
use Rattle.arrays.proofs.Fills.{filled}
use Rattle.reach.proofs.Walk.new.Goals as goal

pub returns : goal.returns
returns c = (filled 4096 0, filled 4096 0, filled 4096 0, filled 4096 0)
