-- `put_byte`: a byte is a text of one.
use mathlib.Core.Path.{refl}
use native.Mathlib.Omega.{arith}
use Rattle.text.proofs.Puts.{put_sets}
use Rattle.text.proofs.put_byte.Goals as goal

pub returns : goal.returns
returns c = put_sets refl (omega arith) refl
