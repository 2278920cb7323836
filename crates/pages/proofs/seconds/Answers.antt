use mathlib.Core.Path.{refl}
use native.Mathlib.Omega.{arith}
use Rattle.pages.proofs.Scan.{seconds_none, seconds_add, seconds_skip}
use Rattle.pages.proofs.seconds.Goals.{then-passes, else-passes}
use Rattle.pages.proofs.seconds.Goals as goal

pub loop-v-init : goal.loop-v-init
loop-v-init c = (seconds_none, c.requires, omega arith, omega arith)

pub loop-v-preserved : goal.loop-v-preserved
loop-v-preserved c =
    let passes-ensures = c.passes.ensures in
    let h = c.loop-v.invariant in (
      elim c.if-passes.branch [
        | then-passes w ↦
            rw (w.out-is, w.k-is)
            (seconds_add _ h.0 _ _ refl refl _ refl h.2 (passes-ensures.holds w.if-passes.true) w.add-k.ensures)
        | else-passes w ↦
            rw (w.out-is, w.k-is) (seconds_skip _ h.0 _ _ refl refl (passes-ensures.fails w.if-passes.false))
      ],
      h.1,
      omega arith,
      omega arith,
    )
