-- `with`: a bit that is not set is added, and no other changes.
use native.Mathlib.Omega.{arith}
use Rattle.vetting.proofs.BitLaws.{with_room, with_bits}
use Rattle.vetting.proofs.bits.with.Goals as goal

pub overflow_add-result : goal.overflow_add-result
overflow_add-result c = record { fits = with_room _ _ (omega arith) c.requires.0 c.requires.1 }

pub returns : goal.returns
returns c = with_bits _ _ c.requires.0 c.requires.1
