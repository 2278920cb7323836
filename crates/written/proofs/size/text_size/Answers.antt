-- `text_size` counts the p line's digits and adds the rows (proofs/Texts).
use Prim.Native.Nat.{◌-◌, ◌*◌}
use Prim.Native.Nat.{◌-◌}
use native.Mathlib.Omega.{arith}
use Rattle.written.specs.work.Rows.{row_arc}
use Rattle.written.proofs.Texts.{field_length, head_length, text_length}
use Rattle.written.proofs.size.text_size.Goals as goal

pub rows_size-requires : goal.rows_size-requires
rows_size-requires c =
    let pre = c.requires in
    let e = c.from-rows.ensures in
    rw e pre.1

pub returns : goal.returns
returns c =
    let args = c.args in
    let e = c.from-rows.ensures in
    let n = rw c.from.ensures at c.digits_of-n.ensures.0 in
    let d = rw e at c.digits_of-m.ensures.0 in
    let k = rw e at c.rows_size.ensures.0 in
    omega (
      arith,
      text_length args.top (row_arc args.place args.s.now) args.nodes (args.nodes - 1),
      head_length args.nodes (2 * (args.nodes - 1)),
      field_length args.nodes 32,
      field_length (2 * (args.nodes - 1)) 10,
    )
