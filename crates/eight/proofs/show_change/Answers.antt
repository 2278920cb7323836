-- `show_change` shows a refusal as it stands, or the count as a signed number.
use Rattle.eight.proofs.Numbers.{kept, widened}
use Rattle.eight.proofs.show_change.Goals as goal

pub refuse-requires : goal.refuse-requires
refuse-requires c = let told = rw c.in-Err.is at c.requires in widened told

pub returns-in-Ok : goal.returns-in-Ok
returns-in-Ok c =
    rw c.in-Ok.is (rw (kept c.from.ensures c.from.type_inv) at c.fine.ensures)

pub returns-in-Err : goal.returns-in-Err
returns-in-Err c = rw c.in-Err.is c.refuse.ensures
