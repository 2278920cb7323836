-- `trade`: the header stands in our own memory, the rows after it, or 27 or 28 is given; then 29, and the table as
-- `give` has it.
use Prim.Native.Nat.{ℕ}
use native.Mathlib.Omega.{arith}
use lib.ListN.{length-replicate}
use Rattle.dimacs.proofs.Traded.{
  lengths_from,
  weights_from,
  header_in,
  header_long,
  arcs_refused,
  room_refused,
  many_tested,
  part_long,
  table_tested,
}
use Rattle.dimacs.proofs.reading.trade.Goals as goal

pub rows-requires : goal.rows-requires
rows-requires c = (
  _,
  _,
  lengths_from c.requires,
  weights_from c.requires,
  header_long (header_in _ (length-replicate {A = ℕ} 49152 0) c.put_header.ensures),
)

pub returns-in-Err : goal.returns-in-Err
returns-in-Err c =
    rw c.rowless.ensures
    (arcs_refused c.requires _ _ (c.in-Err.ensures _ (lengths_from c.requires) _ (weights_from c.requires)))

pub returns-then-no_room : goal.returns-then-no_room
returns-then-no_room c =
    rw c.rowless-then-no_room.ensures
    (room_refused c.requires _ _ (c.in_default.ensures _ (lengths_from c.requires) _ (weights_from c.requires))
    (c.no_room.ensures.0 c.if-no_room.true))

pub returns-then-arcs-gt8190 : goal.returns-then-arcs-gt8190
returns-then-arcs-gt8190 c =
    rw c.rowless-then-arcs-gt8190.ensures
    (many_tested c.requires _ _ (c.in_default.ensures _ (lengths_from c.requires) _ (weights_from c.requires))
    (c.no_room.ensures.1 c.if-no_room.false) c.if-arcs-gt8190.true _ c.too_many.ensures.0 c.too_many.ensures.1)

pub slice_bounds-give-end : goal.slice_bounds-give-end
slice_bounds-give-end c =
    part_long c.requires c.args.bound c.args.table.now (c.in_default.ensures _ (lengths_from c.requires) _
    (weights_from c.requires))
    (omega arith) (header_in _ (length-replicate {A = ℕ} 49152 0) c.put_header.ensures)

pub give-requires : goal.give-requires
give-requires c =
    let room = c.no_room.ensures.1 c.if-no_room.false in
    let part = part_long c.requires c.args.bound c.args.table.now (c.in_default.ensures _ (lengths_from c.requires) _
    (weights_from c.requires))
    (omega arith) (header_in _ (length-replicate {A = ℕ} 49152 0) c.put_header.ensures) in
    omega (arith, room, part)

pub returns : goal.returns
returns c =
    table_tested c.requires _ _ (c.in_default.ensures _ (lengths_from c.requires) _ (weights_from c.requires)) (omega
    arith)
    (header_in _ (length-replicate {A = ℕ} 49152 0) c.put_header.ensures) (c.no_room.ensures.1 c.if-no_room.false)
    c.give.ensures
