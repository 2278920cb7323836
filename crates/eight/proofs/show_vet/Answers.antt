-- `show_vet` shows a refusal as it stands, or the verdict's number and its fields as signed numbers: the row by
-- `fault_fits`.
use mir.Syntax.{w64}
use mir.ValLaws.{to_z_pos}
use mathlib.Core.List.{[]}
use mathlib.Core.Path.{ap, ◌∙◌}
use Rattle.std.specs.Prelude.{Ok}
use Rattle.eight.proofs.Counts.{fault_fits}
use Rattle.eight.proofs.Numbers.{kept, widened}
use Rattle.eight.proofs.show_vet.Goals as goal

pub refuse-requires : goal.refuse-requires
refuse-requires c = let told = rw c.in-Err.is at c.requires in widened told

pub overflow_cast-row : goal.overflow_cast-row
overflow_cast-row c =
    let fault = rw c.in-Ok-Fault.is at c.in-Ok-Fault.field-0-is in
    record { sfits = fault_fits c.requires (c.in-Ok-Fault.is ∙ ap Ok fault) }

pub returns-in-Ok-Yes : goal.returns-in-Ok-Yes
returns-in-Ok-Yes c =
    let yes = rw c.in-Ok-Yes.is at c.in-Ok-Yes.field-0-is in
    rw (c.in-Ok-Yes.is, yes) (c.fine.ensures [])

pub returns-in-Ok-Fault : goal.returns-in-Ok-Fault
returns-in-Ok-Fault c =
    let fault = rw c.in-Ok-Fault.is at c.in-Ok-Fault.field-0-is in
    let few = fault_fits c.requires (c.in-Ok-Fault.is ∙ ap Ok fault) in
    rw (c.in-Ok-Fault.is, fault) (rw (to_z_pos w64 _ few) at (c.fine-in-Ok-Fault.ensures []))

pub returns-in-Ok-Missing : goal.returns-in-Ok-Missing
returns-in-Ok-Missing c =
    let missing = rw c.in-Ok-Missing.is at c.in-Ok-Missing.field-0-is in
    let low = kept c.from.ensures c.from.type_inv in
    let high = kept c.from-in-Ok-Missing.ensures c.from-in-Ok-Missing.type_inv in
    rw (c.in-Ok-Missing.is, missing) (rw (low, high) at (c.fine-in-Ok-Missing.ensures []))

pub returns-in-Err : goal.returns-in-Err
returns-in-Err c = rw c.in-Err.is (c.refuse.ensures [])
