-- `marks::spend` meets its contract: the top bit is set, and the others stay.
use native.Mathlib.Omega.{arith}
use Rattle.marks.proofs.Bits.{set_is}
use Rattle.marks.proofs.spend.Goals as goal

pub returns : goal.returns
returns c = set_is _ (omega arith)
