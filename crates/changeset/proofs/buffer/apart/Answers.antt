-- `apart`: bits of two numbers are set together in none, and differ in none.
use Rattle.changeset.proofs.Bits.{apart_is}
use Rattle.changeset.proofs.buffer.apart.Goals as goal

pub returns : goal.returns
returns c = apart_is _ _ _
