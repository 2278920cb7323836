use mathlib.Core.Path.{◌≡◌, refl}
use native.Mathlib.Omega.{arith}
use Rattle.window.proofs.Bettering.{bettered_none, bettered_from, bettered_skip, bettered_take}
use Rattle.window.proofs.best.among.Goals.{then-takes, else-takes}
use Rattle.window.proofs.best.among.Goals as goal

pub loop-v-init : goal.loop-v-init
loop-v-init c = bettered_none

pub loop-v-preserved : goal.loop-v-preserved
loop-v-preserved c =
    let h = c.loop-v.invariant in
    elim c.if-takes.branch [
      | then-takes w ↦
          rw w.best-is (bettered_take _ h _ _ refl refl (omega arith) (c.takes.ensures.holds w.if-takes.true)
          w.better-best.ensures)
      | else-takes w ↦ rw w.best-is (bettered_skip _ h _ _ refl refl (c.takes.ensures.fails w.if-takes.false))
    ]

pub returns : goal.returns
returns c =
    let e : c.loop-v.v ≡ c.args.n = omega arith in
    bettered_from _ (rw e at c.loop-v.invariant)
