-- `put_row` reads a row and puts its arc and then the opposite (proofs/Rows).
use mathlib.Core.Path.{refl}
use native.Mathlib.Omega.{arith}
use Prim.Native.Nat.{◌+◌}
use Rattle.roads.specs.work.Line.{arc_of}
use Rattle.written.proofs.Texts.{arc_turned}
use Rattle.written.proofs.Rows.{row_parts, row_put}
use Rattle.written.proofs.put.put_row.Goals as goal

pub put_arc-p-requires : goal.put_arc-p-requires
put_arc-p-requires c =
    let four-ensures = c.four-b.ensures in
    let two-ensures = c.two-from.ensures in
    let args = c.args in (
      omega (
        arith,
        row_parts args.t.table.now args.r args.t.place two-ensures.0 c.two-to.ensures.0
            four-ensures.0 refl refl args.t.top,
      ),
      four-ensures.1,
    )

pub put_arc-requires : goal.put_arc-requires
put_arc-requires c =
    let four-ensures = c.four-b.ensures in
    let two2-ensures = c.two-to.ensures in
    let two-ensures = c.two-from.ensures in
    let args = c.args in (
      omega (
        arith,
        row_parts args.t.table.now args.r args.t.place two-ensures.0 two2-ensures.0 four-ensures.0 refl refl
            args.t.top,
        arc_turned args.t.top (arc_of (c.two-from.result + 1) (c.two-to.result + 1) c.four-b.result),
      ),
      four-ensures.1,
    )

pub returns : goal.returns
returns c =
    let put-arc-ensures = c.put_arc-p.ensures in
    let four-ensures = c.four-b.ensures in
    let two2-ensures = c.two-to.ensures in
    let two-ensures = c.two-from.ensures in
    let args = c.args in
    row_put args.t.table.now args.r args.t.place two-ensures.0 two2-ensures.0 four-ensures.0 refl refl
    args.t.top put-arc-ensures c.put_arc.ensures
