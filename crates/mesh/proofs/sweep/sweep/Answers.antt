use Rattle.arrays.proofs.Fills.{filled_by}
use Rattle.mesh.proofs.Sweeping.{
  sweeping_start,
  z_low,
  p_low,
  parent_fits,
  step_fits,
  many_fits,
  many_of,
  sweeping_next,
  sweeping_end,
}
use Prim.Native.Nat.{◌<◌}
use mathlib.Core.Path.{refl}
use native.Mathlib.Omega.{arith}
use Rattle.mesh.proofs.sweep.sweep.Goals.{After-from-p, After-from-z}
use Rattle.mesh.proofs.sweep.sweep.Goals as goal

z_in : (c : After-from-z) → c.from-z.result < 256
z_in c =
    let s = c.loop-j.invariant in
    omega (arith, z_low s c.loop-j-test.true _ _ c.from-z.ensures refl, s.tree.few)

p_in : (c : After-from-p) → c.from-p.result < 256
p_in c =
    let s = c.loop-j.invariant in
    let l = c.loop-j-test.true in
    omega (arith, p_low s l _ _ c.from-z.ensures c.from-p.ensures, s.tree.few)

pub loop-j-init : goal.loop-j-init
loop-j-init c =
    sweeping_start c.requires.0 (filled_by (omega arith) c.fill.ensures.after)
    (filled_by (omega arith) c.fill-2.ensures.after) (filled_by (omega arith) c.fill-3.ensures.after)

pub advance-t-requires : goal.advance-t-requires
advance-t-requires c =
    let from2-ensures = c.from-p.ensures in
    let from-ensures = c.from-z.ensures in
    let loop-test-taken = c.loop-j-test.true in
    let loop-inv = c.loop-j.invariant in
    omega (
      arith,
      (parent_fits loop-inv loop-test-taken _ _ from-ensures from2-ensures).climbs,
      loop-inv.tree.few,
    )

pub best-d-requires : goal.best-d-requires
best-d-requires c =
    let st = c.advance-t.ensures in
    let from2-ensures = c.from-p.ensures in
    let from-ensures = c.from-z.ensures in
    let l = c.loop-j-test.true in
    let s = c.loop-j.invariant in
    let pre = c.requires in
    let t = step_fits s l _ _ from-ensures from2-ensures _ _ st in (
      omega (arith, t.0, s.tree.few, s.some),
      t.1,
      omega (arith, t.2, s.tree.few),
      many_fits s l _ _ from-ensures from2-ensures _ _ st _
          (many_of s l _ _ from-ensures from2-ensures _ _ st pre.1 c.from.ensures),
    )

pub loop-j-preserved : goal.loop-j-preserved
loop-j-preserved c =
    let st = c.advance-t.ensures in
    let from2-ensures = c.from-p.ensures in
    let from-ensures = c.from-z.ensures in
    let l = c.loop-j-test.true in
    let s = c.loop-j.invariant in
    let pre = c.requires in
    sweeping_next s l _ _ from-ensures from2-ensures _ _ st _ _
    (many_of s l _ _ from-ensures from2-ensures _ _ st pre.1 c.from.ensures)
    c.best-d.ensures

pub returns : goal.returns
returns c = sweeping_end c.loop-j.invariant (λ h. omega arith)
