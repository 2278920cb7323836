use mathlib.Core.Path.{◌≡◌}
use native.Mathlib.Omega.{arith}
use Rattle.written.proofs.Rows.{summing_none, summing_more}
use Rattle.written.proofs.size.rows_size.Goals as goal

pub loop-r-init : goal.loop-r-init
loop-r-init c = summing_none _ c.requires

pub row_size-k-requires : goal.row_size-k-requires
row_size-k-requires c = (c.loop-r.invariant.there.stands _ (omega arith), c.loop-r.invariant.there.within)

pub overflow_add-k : goal.overflow_add-k
overflow_add-k c = omega (arith, c.loop-r.invariant.small, c.loop-r.invariant.there.few)

pub loop-r-preserved : goal.loop-r-preserved
loop-r-preserved c =
    summing_more c.loop-r.invariant (omega arith) _ c.row_size-k.ensures.0 c.row_size-k.ensures.1

pub returns : goal.returns
returns c =
    let loop-inv = c.loop-r.invariant in
    let args = c.args in
    let e : c.loop-r.r ≡ args.rows = omega (arith, loop-inv.most) in
    (rw e at loop-inv.sum, omega (arith, loop-inv.small, loop-inv.there.few))
