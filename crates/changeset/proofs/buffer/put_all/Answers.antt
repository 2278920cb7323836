use Prim.Native.Nat.{◌-◌}
use mathlib.Core.Path.{◌≡◌}
use native.Mathlib.Omega.{arith}
use borrow.Author.Tests.{eqb-true, eqb-false}
use Rattle.changeset.proofs.AllRows.{own_more, all_more, all_done}
use Rattle.changeset.proofs.buffer.put_all.Goals as goal

pub loop-i-preserved : goal.loop-i-preserved
loop-i-preserved c =
    let inv = c.loop-i.invariant in (
      all_more 16 (omega arith) inv.0 (omega arith) c.put.ensures,
      own_more inv.1 c.number_at.ensures.0 c.apart-off.ensures,
    )

pub returns : goal.returns
returns c =
    let e : c.loop-i.i ≡ c.args.n - 2 = omega arith in
    let inv = rw e at c.loop-i.invariant in
    all_done (all_more 12 (omega arith) inv.0 (omega arith) c.put-2.ensures) (omega arith)
    (own_more inv.1 c.number_at-2.ensures.0 c.apart.ensures) _ (eqb-true c.apart.result 0)
    (eqb-false c.apart.result 0)
