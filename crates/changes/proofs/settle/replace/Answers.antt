use Rattle.changes.proofs.Replacing.{replacing_start, replacing_hit, replacing_miss, replacing_end}
use Prim.Native.Nat.{◌<◌}
use lib.ListN.{length}
use native.Mathlib.Omega.{arith}
use Rattle.std.proofs.lemmas.List.{set-get_or}
use Rattle.changes.proofs.settle.replace.Goals.{then-holds, else-holds}
use Rattle.changes.proofs.settle.replace.Goals as goal

pub loop-mark-init : goal.loop-mark-init
loop-mark-init c = replacing_start _ _ _

pub overflow_add-k : goal.overflow_add-k
overflow_add-k c =
    let loop-inv = c.loop-mark.invariant in
    omega (arith, loop-inv.few, loop-inv.within, c.requires)

pub loop-mark-preserved : goal.loop-mark-preserved
loop-mark-preserved c =
    let inv = c.loop-mark.invariant in
    let l : c.loop-mark.mark-index < length c.args.marks.now = omega arith in
    elim c.if-holds.branch [
      | then-holds w ↦ rw (w.marks-is, w.k-is) (replacing_hit inv l (c.holds.ensures.0 w.if-holds.true))
      | else-holds w ↦ rw (w.marks-is, w.k-is, set-get_or) (replacing_miss inv l (c.holds.ensures.1 w.if-holds.false))
    ]

pub shape_of-marks : goal.shape_of-marks
shape_of-marks c = c.loop-mark.invariant.same_many

pub returns : goal.returns
returns c = replacing_end (omega (arith, c.loop-mark.invariant.same_many)) c.loop-mark.invariant
