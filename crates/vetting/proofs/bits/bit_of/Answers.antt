-- `bit_of`: a bit is what is left when those below it are shifted out.
use Rattle.vetting.proofs.BitLaws.{bit_shift}
use Rattle.vetting.proofs.bits.bit_of.Goals as goal

pub returns : goal.returns
returns c = bit_shift _ _
