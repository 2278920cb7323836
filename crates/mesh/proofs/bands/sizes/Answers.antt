use Rattle.arrays.proofs.Fills.{filled_by}
use Rattle.mesh.proofs.Sizing.{sizing_start, name_fits, size_fits, sizing_next, sizing_end}
use Prim.Native.Nat.{◌<◌}
use native.Mathlib.Omega.{arith}
use Rattle.mesh.proofs.bands.sizes.Goals.{After-named-g}
use Rattle.mesh.proofs.bands.sizes.Goals as goal

g_in : (c : After-named-g) → c.named-g.result < 256
g_in c = name_fits c.loop-x.invariant c.loop-x-test.true _ c.named-g.ensures

pub loop-x-init : goal.loop-x-init
loop-x-init c =
    let pre = c.requires in
    sizing_start pre.0 pre.1 pre.2 (filled_by (omega arith) c.fill.ensures.after)

pub overflow_cast-bands : goal.overflow_cast-bands
overflow_cast-bands c = omega (arith, g_in c)

pub overflow_add-bands : goal.overflow_add-bands
overflow_add-bands c =
    let loop-test-taken = c.loop-x-test.true in
    let loop-inv = c.loop-x.invariant in
    omega (arith, size_fits loop-inv loop-test-taken _ c.named-g.ensures, loop-inv.few)

pub loop-x-preserved : goal.loop-x-preserved
loop-x-preserved c =
    let loop-test-taken = c.loop-x-test.true in
    let loop-inv = c.loop-x.invariant in
    sizing_next loop-inv loop-test-taken _ c.named-g.ensures

pub returns : goal.returns
returns c = sizing_end c.loop-x.invariant (λ h. omega arith)
