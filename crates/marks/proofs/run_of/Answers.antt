-- `marks::run_of` meets its contract: the mask leaves the fifteen lower bits.
use Rattle.marks.proofs.Bits.{mask_is}
use Rattle.marks.proofs.run_of.Goals as goal

pub returns : goal.returns
returns c = mask_is _
