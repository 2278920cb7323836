use Prim.Native.Nat.{◌<◌}
use mathlib.Core.Path.{refl, ◌∙◌}
use native.Mathlib.Omega.{arith}
use Rattle.arrays.proofs.Fills.{filled_by}
use Rattle.reach.proofs.Chained.{from_fits, chained_none, chained_more, chained_all}
use Rattle.reach.proofs.chains.Goals.{After-leaves-v}
use Rattle.reach.proofs.chains.Goals as goal

node_in : (c : After-leaves-v) → c.leaves-v.result < 4096
node_in c = rw c.leaves-v.ensures (from_fits _ _ _ c.loop-h.invariant.1.fit (omega arith))

pub loop-h-init : goal.loop-h-init
loop-h-init c =
    let zero = filled_by {m = 4096} {v = 0} c.told-first c.fill.ensures.after in
    let pre = c.requires in
    (chained_none _ _ _ _ _ zero.long (c.fill-2.ensures.len ∙ c.told-next) zero.each, pre, refl)

pub leaves-v-requires : goal.leaves-v-requires
leaves-v-requires c = c.loop-h.invariant.1.stands _ (omega arith)

pub offset_bounds-first-v : goal.offset_bounds-first-v
offset_bounds-first-v c = omega (arith, node_in c)

pub bounds-first-v : goal.bounds-first-v
bounds-first-v c = node_in (goal.at.bounds-first-v c).After-leaves-v

pub offset_bounds-first-v-in-loop-h : goal.offset_bounds-first-v-in-loop-h
offset_bounds-first-v-in-loop-h c = omega (arith, node_in (goal.at.offset_bounds-first-v-in-loop-h c).After-leaves-v)

pub bounds-first-v-in-loop-h : goal.bounds-first-v-in-loop-h
bounds-first-v-in-loop-h c = omega (arith, node_in (goal.at.bounds-first-v-in-loop-h c).After-leaves-v)

pub loop-h-preserved : goal.loop-h-preserved
loop-h-preserved c =
    let h = c.loop-h.invariant in
    (chained_more _ _ _ _ _ _ _ h.1.fit h.1.few (omega arith) c.leaves-v.ensures h.0, h.1, h.2)

pub returns : goal.returns
returns c = let h = c.loop-h.invariant in chained_all _ _ _ _ _ _ h.0 (omega arith)
