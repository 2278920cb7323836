use Rattle.mesh.proofs.Roots.{two_rings_refused, rooting_start, rooting_keep, rooting_more, rooting_end}
use Rattle.table.specs.Refuse.{refused}
use native.Mathlib.Omega.{arith}
use Rattle.mesh.proofs.from_all.Goals.{then-branches-far, else-branches-far}
use Rattle.mesh.proofs.from_all.Goals as goal

pub spread-requires : goal.spread-requires
spread-requires c = (c.requires.0, c.requires.1)

pub returns-in_default : goal.returns-in_default
returns-in_default c = rw c.refusal.ensures (refused c.in_default.ensures)

pub loop-a-init : goal.loop-a-init
loop-a-init c = (rooting_start c.requires.1, c.in-Some.ensures)

pub from_root-requires : goal.from_root-requires
from_root-requires c =
    let loop-inv = c.loop-a.invariant in
    let pre = c.requires in
    (pre.0, loop-inv.1, pre.2, c.loop-a-test.true)

pub returns-in_default-from_root : goal.returns-in_default-from_root
returns-in_default-from_root c =
    rw c.refusal-in_default-from_root.ensures
    (two_rings_refused c.loop-a.invariant.1 c.in_default-from_root.ensures)

pub loop-a-preserved : goal.loop-a-preserved
loop-a-preserved c =
    let far = c.in-Some-from_root.ensures in
    let loop-inv = c.loop-a.invariant in
    elim c.if-branches-far.branch [
      | then-branches-far w ↦
          rw (w.branches-is, w.low-is, w.high-is)
          (rooting_more loop-inv.0 c.loop-a-test.true far.0 far.1 w.if-branches-far.true, loop-inv.1)
      | else-branches-far w ↦
          rw (w.branches-is, w.low-is, w.high-is)
          (rooting_keep loop-inv.0 c.loop-a-test.true far.0 far.1 (λ h. omega arith), loop-inv.1)
    ]

pub overflow_cast-result : goal.overflow_cast-result
overflow_cast-result c =
    let pre = c.requires in
    omega (arith, c.loop-a.invariant.0.fits.0, pre.0.few)

pub overflow_cast-result-2 : goal.overflow_cast-result-2
overflow_cast-result-2 c =
    let pre = c.requires in
    omega (arith, c.loop-a.invariant.0.fits.1, pre.0.few)

pub returns : goal.returns
returns c = rooting_end c.loop-a.invariant.0 c.loop-a.invariant.1 (λ h. omega arith)
