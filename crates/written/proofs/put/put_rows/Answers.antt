use mathlib.Core.Path.{◌≡◌}
use native.Mathlib.Omega.{arith}
use Rattle.written.proofs.Rows.{storing_none, storing_room, storing_more}
use Rattle.written.proofs.put.put_rows.Goals as goal

pub loop-r-init : goal.loop-r-init
loop-r-init c = storing_none _ c.requires.0 c.requires.1

pub put_row-p-requires : goal.put_row-p-requires
put_row-p-requires c =
    let loop-inv = c.loop-r.invariant in
    (storing_room loop-inv (omega arith), loop-inv.there.stands _ (omega arith), loop-inv.there.within)

pub loop-r-preserved : goal.loop-r-preserved
loop-r-preserved c =
    let loop-inv = c.loop-r.invariant in
    storing_more loop-inv (omega arith) c.put_row-p.ensures

pub shape_of-out : goal.shape_of-out
shape_of-out c = c.loop-r.invariant.put.same

pub returns : goal.returns
returns c =
    let loop-inv = c.loop-r.invariant in
    let args = c.args in
    let e : c.loop-r.r ≡ args.rows = omega (arith, loop-inv.most) in
    rw e at loop-inv.put
