use Prim.Native.Nat.{◌-◌, ◌<◌}
use native.Mathlib.Omega.{arith}
use Rattle.arrays.proofs.Fills.{filled_by}
use Rattle.reach.proofs.Grown.{read_node, read_parent}
use Rattle.spines.proofs.Backward.{given_none, given_next, given_all, sum_fits, node_can, root_can}
use Rattle.spines.proofs.sweeps.sum_up.Goals.{After-from-p, After-from-v}
use Rattle.spines.proofs.sweeps.sum_up.Goals as goal

node_in : (g : _) (c : After-from-v g) → c.from-v.result < 4096
node_in g c =
    let loop-i = c.loop-i.i in
    let h = c.loop-i.invariant in
    read_node h.0.holds (loop-i - 1) _ (omega arith) c.from-v.ensures

parent_in : (g : _) (c : After-from-p g) → c.from-p.result < 4096
parent_in g c =
    let loop-i = c.loop-i.i in
    let h = c.loop-i.invariant in
    read_parent h.0.holds (loop-i - 1) _ _ (omega arith) (omega arith) c.from-v.ensures
    c.from-p.ensures

pub loop-i-init : goal.loop-i-init
loop-i-init g c =
    let k = c.requires.ordered in
    let none = filled_by c.told-sum c.fill.ensures.after in
    (k, λ L o. given_none k.holds o none, k.holds.some.0, omega arith, c.requires.owned.0, c.requires.owned.1)

pub offset_bounds-parent-v : goal.offset_bounds-parent-v
offset_bounds-parent-v g c = omega (arith, node_in g c)

pub bounds-parent-v : goal.bounds-parent-v
bounds-parent-v g c = omega (arith, node_in g (goal.at.bounds-parent-v g c).After-from-v)

pub offset_bounds-sum-v : goal.offset_bounds-sum-v
offset_bounds-sum-v g c = omega (arith, node_in g (goal.at.offset_bounds-sum-v g c).After-from-v)

pub bounds-sum-v : goal.bounds-sum-v
bounds-sum-v g c = omega (arith, node_in g (goal.at.bounds-sum-v g c).After-from-v)

pub offset_bounds-sum-p : goal.offset_bounds-sum-p
offset_bounds-sum-p g c = omega (arith, parent_in g (goal.at.offset_bounds-sum-p g c).After-from-p)

pub bounds-sum-p : goal.bounds-sum-p
bounds-sum-p g c = omega (arith, parent_in g (goal.at.bounds-sum-p g c).After-from-p)

pub own-w-requires : goal.own-w-requires
own-w-requires g c =
    let h = c.loop-i.invariant in
    node_can h.0.holds h.5 _ _ _ c.loop-i-test.true h.3 c.from-v.ensures (h.1 _ h.5)

pub overflow_add-y : goal.overflow_add-y
overflow_add-y g c =
    let h = c.loop-i.invariant in
    omega (
      arith,
      h.0.holds.some.1,
      sum_fits h.0.holds h.5 _ _ _ c.loop-i-test.true h.3 c.from-v.ensures (h.1 _ h.5) _ _ c.from-p.ensures
          c.own-w.ensures,
    )

pub offset_bounds-sum-v-in-loop-i : goal.offset_bounds-sum-v-in-loop-i
offset_bounds-sum-v-in-loop-i g c = omega (arith, node_in g (goal.at.offset_bounds-sum-v-in-loop-i g c).After-from-v)

pub bounds-sum-v-in-loop-i : goal.bounds-sum-v-in-loop-i
bounds-sum-v-in-loop-i g c = omega (arith, node_in g (goal.at.bounds-sum-v-in-loop-i g c).After-from-v)

pub offset_bounds-sum-p-in-loop-i : goal.offset_bounds-sum-p-in-loop-i
offset_bounds-sum-p-in-loop-i g c = omega (arith, parent_in g (goal.at.offset_bounds-sum-p-in-loop-i g c).After-from-p)

pub bounds-sum-p-in-loop-i : goal.bounds-sum-p-in-loop-i
bounds-sum-p-in-loop-i g c = omega (arith, parent_in g (goal.at.bounds-sum-p-in-loop-i g c).After-from-p)

pub loop-i-preserved : goal.loop-i-preserved
loop-i-preserved g c =
    let h = c.loop-i.invariant in (
      h.0,
      λ L o. given_next h.0.holds o _ _ _ c.loop-i-test.true h.3 c.from-v.ensures (h.1 L o) _ _ c.from-p.ensures
          c.own-w.ensures,
      omega arith,
      omega arith,
      h.4,
      h.5,
    )

pub own-requires : goal.own-requires
own-requires g c =
    let h = c.loop-i.invariant in
    root_can h.0.holds h.5 _ _ (omega arith) h.2 (h.1 _ h.5)

pub returns : goal.returns
returns g c =
    let h = c.loop-i.invariant in
    λ L o. given_all h.0.holds o _ _ (omega arith) h.2 (h.1 L o) _ c.own.ensures
