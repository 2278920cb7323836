use Prim.Native.Nat.{◌<◌}
use native.Mathlib.Omega.{arith}
use Rattle.arrays.proofs.Fills.{filled_by}
use Rattle.reach.proofs.Grown.{read_node, read_parent}
use Rattle.spines.proofs.HeadSweep.{heads_one, heads_more, heads_all}
use Rattle.spines.proofs.sweeps.follow_mains.Goals.{After-from-p, After-from-v}
use Rattle.spines.proofs.sweeps.follow_mains.Goals as goal

node_in : (c : After-from-v) → c.from-v.result < 4096
node_in c =
    let loop = c.loop-i in
    read_node loop.invariant.1.holds loop.i _ c.loop-i-test.true c.from-v.ensures

parent_in : (c : After-from-p) → c.from-p.result < 4096
parent_in c =
    let loop-test-taken = c.loop-i-test.true in
    let loop = c.loop-i in
    read_parent loop.invariant.1.holds loop.i _ _ (omega arith) loop-test-taken c.from-v.ensures
    c.from-p.ensures

pub loop-i-init : goal.loop-i-init
loop-i-init c =
    let pre = c.requires in
    (heads_one pre.0.holds pre.1 _ (filled_by c.told-head c.fill.ensures.after), pre.0, pre.1, omega arith)

pub offset_bounds-parent-v : goal.offset_bounds-parent-v
offset_bounds-parent-v c = omega (arith, node_in c)

pub bounds-parent-v : goal.bounds-parent-v
bounds-parent-v c = omega (arith, node_in (goal.at.bounds-parent-v c).After-from-v)

pub offset_bounds-main-p : goal.offset_bounds-main-p
offset_bounds-main-p c = omega (arith, parent_in c)

pub bounds-main-p : goal.bounds-main-p
bounds-main-p c = omega (arith, parent_in (goal.at.bounds-main-p c).After-from-p)

pub offset_bounds-head-p : goal.offset_bounds-head-p
offset_bounds-head-p c = omega (arith, parent_in (goal.at.offset_bounds-head-p c).After-from-p)

pub bounds-head-p : goal.bounds-head-p
bounds-head-p c = omega (arith, parent_in (goal.at.bounds-head-p c).After-from-p)

pub follow-requires : goal.follow-requires
follow-requires c = omega (arith, node_in (goal.at.follow-requires c).After-from-v)

pub offset_bounds-head-v : goal.offset_bounds-head-v
offset_bounds-head-v c = omega (arith, node_in (goal.at.offset_bounds-head-v c).After-from-v)

pub bounds-head-v : goal.bounds-head-v
bounds-head-v c = omega (arith, node_in (goal.at.bounds-head-v c).After-from-v)

pub loop-i-preserved : goal.loop-i-preserved
loop-i-preserved c =
    let from2-ensures = c.from-p.ensures in
    let from-ensures = c.from-v.ensures in
    let loop-test-taken = c.loop-i-test.true in
    let h = c.loop-i.invariant in (
      heads_more h.1.holds h.2 _ _ _ _ _ h.3 loop-test-taken from-ensures from2-ensures h.0
          c.follow.ensures,
      h.1,
      h.2,
      omega arith,
    )

pub returns : goal.returns
returns c = let h = c.loop-i.invariant in heads_all h.1.holds h.2 _ _ (omega arith) h.0
