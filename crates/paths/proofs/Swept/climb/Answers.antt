use Prim.Native.Nat.{◌≤◌}
use mathlib.Core.Path.{refl}
use native.Mathlib.Omega.{arith}
use Rattle.arrays.specs.At.{at}
use Rattle.paths.proofs.Climbs.{climbing_start, climbing_step, climbing_end, climb_node, climb_fits, climb_less}
use Rattle.paths.proofs.Swept.climb.Goals.{In-loop-x}
use Rattle.paths.proofs.Swept.climb.Goals as goal

sums_fit : (c : In-loop-x)
    → (c.loop-x.length ≤ 4096000000)
    × (at c.args.self.now.bl.now c.loop-x.x ≤ 1000000)
    × (1000000 ≤ c.loop-x.weight)
    × (c.loop-x.weight ≤ 17179869184)
    × (at c.args.self.now.bw.now c.loop-x.x ≤ 2000000)
sums_fit c = climb_fits c.loop-x.invariant.0 c.loop-x.invariant.1 c.loop-x-test.true

pub clear-requires : goal.clear-requires
clear-requires c = (c.requires.0.ground.grown.some.1, c.requires.1)

pub loop-x-init : goal.loop-x-init
loop-x-init c =
    let pre = c.requires in
    let h = climbing_start c.clear.ensures in
    (h, pre.0, climb_node h pre.0)

pub overflow_add-length : goal.overflow_add-length
overflow_add-length c = let h = sums_fit (goal.at.overflow_add-length c).In-loop-x in omega (arith, h.0, h.1)

pub overflow_add-weight : goal.overflow_add-weight
overflow_add-weight c = let h = sums_fit (goal.at.overflow_add-weight c).In-loop-x in omega (arith, h.3, h.4)

pub overflow_sub-weight : goal.overflow_sub-weight
overflow_sub-weight c = let h = sums_fit (goal.at.overflow_sub-weight c).In-loop-x in omega (arith, h.2)

pub loop-x-smaller : goal.loop-x-smaller
loop-x-smaller c =
    let loop-test-taken = c.loop-x-test.true in
    let loop-inv = c.loop-x.invariant in
    climb_less loop-inv.0 loop-inv.1 loop-test-taken c.from-x.result c.from-x.ensures

pub loop-x-preserved : goal.loop-x-preserved
loop-x-preserved c =
    let loop-test-taken = c.loop-x-test.true in
    let loop-inv = c.loop-x.invariant in
    let h = climbing_step loop-inv.0 loop-test-taken _ _ _ c.from-x.ensures refl refl in
    (h, loop-inv.1, climb_node h loop-inv.1)

pub returns : goal.returns
returns c = (climbing_end c.loop-x.invariant.0 c.loop-x-test.false, c.loop-x.invariant.0.long)
