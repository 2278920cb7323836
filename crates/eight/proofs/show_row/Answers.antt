-- `show_row` shows a refusal with no ring, or no fields.
use native.Mathlib.Omega.{arith}
use Rattle.eight.proofs.show_row.Goals as goal

pub refuse-requires : goal.refuse-requires
refuse-requires c =
    let low = rw c.in-Err.is at c.requires in
    rw c.from.ensures (record { low = omega (arith, low); few = omega arith })

pub returns-in-Ok : goal.returns-in-Ok
returns-in-Ok c = rw c.in-Ok.is c.fine.ensures

pub returns-in-Err : goal.returns-in-Err
returns-in-Err c = rw c.in-Err.is (rw c.from.ensures at c.refuse.ensures)
