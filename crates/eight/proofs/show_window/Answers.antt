-- `show_window` shows a refusal as it stands, or the fields as signed numbers.
use Rattle.std.proofs.Common.{rules}
use mir.Syntax.{w64}
use mir.ValLaws.{to_z-of_z}
use mathlib.Core.List.{[]}
use Rattle.eight.proofs.Numbers.{kept, widened}
use Rattle.eight.proofs.show_window.Goals as goal

pub refuse-requires : goal.refuse-requires
refuse-requires c = let told = rw c.in-Err.is at c.requires in widened told

pub returns-in-Ok : goal.returns-in-Ok
returns-in-Ok c =
    rw c.in-Ok.is
    (rw (
      kept c.from.ensures c.from.type_inv,
      kept c.from-in-Ok.ensures c.from-in-Ok.type_inv,
      kept c.from-in-Ok-2.ensures c.from-in-Ok-2.type_inv,
      to_z-of_z w64 c.in-Ok.o.weight (search rules),
    ) at (c.fine.ensures []))

pub returns-in-Err : goal.returns-in-Err
returns-in-Err c = rw c.in-Err.is (c.refuse.ensures [])
