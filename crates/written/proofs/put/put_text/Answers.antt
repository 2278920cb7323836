-- `put_text` puts the p line and then the rows.
use Prim.Native.Nat.{◌-◌}
use native.Mathlib.Omega.{arith}
use Rattle.written.specs.work.Rows.{row_arc}
use Rattle.written.specs.work.Texts.{text_of}
use Rattle.text.proofs.Puts.{put_then}
use Rattle.written.proofs.Texts.{text_length}
use Rattle.written.proofs.put.put_text.Goals as goal

pub put_head-p-requires : goal.put_head-p-requires
put_head-p-requires c =
    let args = c.args in
    rw (c.from-rows.ensures, c.from.ensures)
    (omega (arith, text_length args.top (row_arc args.place args.s.now) args.nodes (args.nodes - 1)))

pub put_rows-requires : goal.put_rows-requires
put_rows-requires c =
    let args = c.args in
    let e = c.from-rows.ensures in
    let p = rw (e, c.from.ensures) at c.put_head-p.ensures in
    rw e (
      omega (arith, text_length args.top (row_arc args.place args.s.now) args.nodes (args.nodes - 1)),
      c.requires.2,
    )

pub returns : goal.returns
unfolding text_of
returns c =
    let e = c.from-rows.ensures in
    put_then (rw (e, c.from.ensures) at c.put_head-p.ensures) (rw e at c.put_rows.ensures)
