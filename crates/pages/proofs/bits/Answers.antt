-- `pages::bits` gives the 64 bits of what x stands for.
use Rattle.pages.proofs.Lift.{bits_of}
use Rattle.pages.proofs.bits.Goals as goal

pub returns : goal.returns
returns c = bits_of _ c.requires
