use Rattle.arrays.proofs.Fills.{filled_by}
use Rattle.layout.proofs.Seating.{seating_one, seat_room, seat_fits, seating_next}
use native.Mathlib.Omega.{arith}
use Prim.Native.Nat.{◌<◌}
use Rattle.layout.proofs.seats.seats.Goals as goal

pub loop-i-init : goal.loop-i-init
loop-i-init c =
    let g = c.requires.grown in (
      omega arith,
      omega (arith, g.some),
      g,
      c.requires.sizes_all,
      seating_one g _ c.requires.sizes_all _ _
          (filled_by c.told-spot c.fill.ensures.after) (filled_by c.told-next c.fill-2.ensures.after),
    )

pub seat_of-t-requires-clause-seat_room : goal.seat_of-t-requires-clause-seat_room
seat_of-t-requires-clause-seat_room c =
    let h = c.loop-i.invariant in
    let l : c.loop-i.i < c.args.n = omega arith in
    seat_room h.2 _ h.3 _ _ _ _ _ h.0 l c.from-v.ensures c.from-p.ensures h.4

pub overflow_add-next : goal.overflow_add-next
overflow_add-next c =
    let from2-ensures = c.from-p.ensures in
    let from-ensures = c.from-v.ensures in
    let l : c.loop-i.i < c.args.n = omega arith in
    let h = c.loop-i.invariant in
    omega (
      arith,
      seat_fits h.2 _ h.3 _ _ _ _ _ h.0 l from-ensures from2-ensures h.4 _ _
          c.seat_of-t.ensures,
    )

pub loop-i-preserved : goal.loop-i-preserved
loop-i-preserved c =
    let from2-ensures = c.from-p.ensures in
    let from-ensures = c.from-v.ensures in
    let l : c.loop-i.i < c.args.n = omega arith in
    let h = c.loop-i.invariant in (
      omega arith,
      omega arith,
      h.2,
      h.3,
      seating_next h.2 _ h.3 _ _ _ _ _ h.0 l from-ensures from2-ensures h.4 _ _
          c.seat_of-t.ensures,
    )
