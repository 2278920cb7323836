-- `show_read` shows a refusal as it stands, or the size as a signed number, which it fits by `size_fits`.
use mir.Syntax.{w64}
use mir.ValLaws.{to_z_pos}
use Rattle.eight.proofs.Counts.{size_fits}
use Rattle.eight.proofs.Numbers.{widened}
use Rattle.eight.proofs.show_read.Goals as goal

pub refuse-requires : goal.refuse-requires
refuse-requires c = let told = rw c.in-Err.is at c.requires in widened told

pub overflow_cast-size : goal.overflow_cast-size
overflow_cast-size c = let few = size_fits c.requires c.in-Ok.is in record { sfits = few }

pub returns-in-Ok : goal.returns-in-Ok
returns-in-Ok c =
    let few = size_fits c.requires c.in-Ok.is in
    rw c.in-Ok.is (rw (to_z_pos w64 _ few) at c.fine.ensures)

pub returns-in-Err : goal.returns-in-Err
returns-in-Err c = rw c.in-Err.is c.refuse.ensures
