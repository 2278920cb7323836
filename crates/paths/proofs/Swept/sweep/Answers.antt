use Prim.Native.Nat.{◌<◌}
use mathlib.Core.Path.{refl}
use native.Mathlib.Omega.{arith}
use Rattle.paths.proofs.Sweeps.{sweeping_one, sweeping_step, sweeping_end, sweep_node, sweep_parent, steps}
use Rattle.paths.proofs.Swept.sweep.Goals.{After-from-p, After-from-x}
use Rattle.paths.proofs.Swept.sweep.Goals as goal

node_in : (c : After-from-x) → c.from-x.result < 4096
node_in c =
    let loop = c.loop-i in
    sweep_node loop.invariant.1 loop.invariant.2 c.loop-i-test.true c.from-x.result _
    c.from-x.ensures refl

parent_in : (c : After-from-p) → c.from-p.result < 4096
parent_in c =
    let node = c.from-x in
    let loop-test = c.loop-i-test in
    let loop = c.loop-i in
    sweep_parent loop.invariant.1 loop.invariant.2 loop-test.true node.result c.from-p.result node.ensures
    c.from-p.ensures

pub loop-i-init : goal.loop-i-init
loop-i-init c = (sweeping_one c.args.len.now c.args.wt.now c.requires.1 c.requires.2, c.requires.0, omega arith)

pub offset_bounds-self-x : goal.offset_bounds-self-x
offset_bounds-self-x c = omega (arith, node_in c)

pub bounds-self-x : goal.bounds-self-x
bounds-self-x c = omega (arith, node_in (goal.at.bounds-self-x c).After-from-x)

pub offset_bounds-self-x-in-loop-i : goal.offset_bounds-self-x-in-loop-i
offset_bounds-self-x-in-loop-i c = omega (arith, node_in (goal.at.offset_bounds-self-x-in-loop-i c).After-from-x)

pub bounds-self-x-in-loop-i : goal.bounds-self-x-in-loop-i
bounds-self-x-in-loop-i c = omega (arith, node_in (goal.at.bounds-self-x-in-loop-i c).After-from-x)

pub offset_bounds-self-x-in-loop-i-2 : goal.offset_bounds-self-x-in-loop-i-2
offset_bounds-self-x-in-loop-i-2 c = omega (arith, node_in (goal.at.offset_bounds-self-x-in-loop-i-2 c).After-from-x)

pub bounds-self-x-in-loop-i-2 : goal.bounds-self-x-in-loop-i-2
bounds-self-x-in-loop-i-2 c = omega (arith, node_in (goal.at.bounds-self-x-in-loop-i-2 c).After-from-x)

pub offset_bounds-above-x : goal.offset_bounds-above-x
offset_bounds-above-x c = omega (arith, node_in (goal.at.offset_bounds-above-x c).After-from-x)

pub bounds-above-x : goal.bounds-above-x
bounds-above-x c = omega (arith, node_in (goal.at.bounds-above-x c).After-from-x)

pub offset_bounds-len-p : goal.offset_bounds-len-p
offset_bounds-len-p c = omega (arith, parent_in (goal.at.offset_bounds-len-p c).After-from-p)

pub bounds-len-p : goal.bounds-len-p
bounds-len-p c = omega (arith, parent_in (goal.at.bounds-len-p c).After-from-p)

pub offset_bounds-wt-p : goal.offset_bounds-wt-p
offset_bounds-wt-p c = omega (arith, parent_in (goal.at.offset_bounds-wt-p c).After-from-p)

pub bounds-wt-p : goal.bounds-wt-p
bounds-wt-p c = omega (arith, parent_in (goal.at.bounds-wt-p c).After-from-p)

pub step-far-requires : goal.step-far-requires
step-far-requires c =
    let up = c.from-p in
    let node = c.from-x in
    let loop-test = c.loop-i-test in
    let loop = c.loop-i in
    steps loop.invariant.0 loop.invariant.2 loop-test.true node.result up.result _ _ node.ensures
    up.ensures refl refl loop.invariant.1

pub offset_bounds-len-x : goal.offset_bounds-len-x
offset_bounds-len-x c = omega (arith, node_in (goal.at.offset_bounds-len-x c).After-from-x)

pub bounds-len-x : goal.bounds-len-x
bounds-len-x c = omega (arith, node_in (goal.at.bounds-len-x c).After-from-x)

pub offset_bounds-wt-x : goal.offset_bounds-wt-x
offset_bounds-wt-x c = omega (arith, node_in (goal.at.offset_bounds-wt-x c).After-from-x)

pub bounds-wt-x : goal.bounds-wt-x
bounds-wt-x c = omega (arith, node_in (goal.at.bounds-wt-x c).After-from-x)

pub loop-i-preserved : goal.loop-i-preserved
loop-i-preserved c =
    let up = c.from-p in
    let node = c.from-x in
    let loop-test = c.loop-i-test in
    let loop = c.loop-i in (
      sweeping_step loop.invariant.0 loop.invariant.2 loop-test.true node.result up.result _ _
          node.ensures up.ensures refl refl _ _ c.step-far.ensures,
      loop.invariant.1,
      omega arith,
    )

pub returns : goal.returns
returns c = sweeping_end c.loop-i-test.false c.loop-i.invariant.0
