-- `show_conversion` shows a refusal as it stands, or no fields.
use mathlib.Core.List.{[]}
use Rattle.eight.proofs.Numbers.{widened}
use Rattle.eight.proofs.show_conversion.Goals as goal

pub refuse-requires : goal.refuse-requires
refuse-requires c = let told = rw c.in-Err.is at c.requires in widened told

pub returns-in-Ok : goal.returns-in-Ok
returns-in-Ok c = rw c.in-Ok.is (c.fine.ensures [])

pub returns-in-Err : goal.returns-in-Err
returns-in-Err c = rw c.in-Err.is (c.refuse.ensures [])
