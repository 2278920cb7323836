-- `slot`: the bit of a pair is within the set, since its line is.
use native.Mathlib.Omega.{arith}
use Rattle.vetting.proofs.LineLaws.{slot_low, slot_is}
use Rattle.vetting.proofs.lines.slot.Goals as goal

pub column_of-requires : goal.column_of-requires
column_of-requires c = (c.requires.pair, c.requires.node, c.requires.asked.nodes)

pub overflow_sub-result : goal.overflow_sub-result
overflow_sub-result c = omega (arith, c.requires.asked.since)

pub overflow_mul-result : goal.overflow_mul-result
overflow_mul-result c = record { fits = omega (arith, c.requires.asked.room) }

pub overflow_add-result : goal.overflow_add-result
overflow_add-result c = record { fits = omega (arith, slot_low c.requires c.column_of.ensures) }

pub returns : goal.returns
returns c =
    let asked = c.requires in
    let column = c.column_of.ensures in
    (slot_is asked column, slot_low asked column)
