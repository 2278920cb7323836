-- `show_write` shows a refusal as it stands, or the two sizes as signed numbers, which they fit by `sizes_fit`; the
-- second memory stands beside.
use mathlib.Core.Path.{ap}
use mir.Syntax.{w64}
use mir.ValLaws.{to_z_pos}
use Rattle.eight.specs.Call.{Call}
use Rattle.eight.proofs.Counts.{sizes_fit}
use Rattle.eight.proofs.Numbers.{widened}
use Rattle.eight.proofs.show_write.Goals as goal

pub refuse-requires : goal.refuse-requires
refuse-requires c = let told = rw c.in-Err.is at c.requires in widened told

pub overflow_cast-o : goal.overflow_cast-o
overflow_cast-o c = let few = sizes_fit c.requires c.in-Ok.is in record { sfits = few.0 }

pub overflow_cast-o-in-Ok : goal.overflow_cast-o-in-Ok
overflow_cast-o-in-Ok c = let few = sizes_fit c.requires c.in-Ok.is in record { sfits = few.1 }

pub returns-in-Ok : goal.returns-in-Ok
returns-in-Ok c =
    let few = sizes_fit c.requires c.in-Ok.is in
    let shown = rw (to_z_pos w64 _ few.0, to_z_pos w64 _ few.1) at c.fine.ensures in
    rw c.in-Ok.is (λ l w. ap (λ (x : Call). (x, w)) (shown l))

pub returns-in-Err : goal.returns-in-Err
returns-in-Err c = rw c.in-Err.is (λ l w. ap (λ (x : Call). (x, w)) (c.refuse.ensures l))
