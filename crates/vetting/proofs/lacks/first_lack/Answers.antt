use mathlib.Core.Path.{refl}
use native.Mathlib.Omega.{arith}
use Rattle.vetting.specs.work.Lacks.{kept}
use Rattle.vetting.proofs.Lacking.{low_next, low_found}
use Rattle.vetting.proofs.lacks.first_lack.Goals as goal

pub loop-low-init : goal.loop-low-init
loop-low-init c = λ a h. absurd (omega (arith, h))

pub block_high-requires : goal.block_high-requires
block_high-requires c =
    (c.requires.0, c.requires.1, omega (arith, c.open_to-low-end.ensures, c.loop-low-test.true, c.requires.2))

pub returns-in-Some : goal.returns-in-Some
returns-in-Some c =
    let limit = c.open_to-low-end.ensures in
    low_found c.loop-low.invariant (omega (arith, limit, c.loop-low-test.true, c.requires.2))
    (omega (arith, limit, c.loop-low-test.true)) (rw c.in-Some.is at c.block_high.ensures)

pub loop-low-preserved : goal.loop-low-preserved
loop-low-preserved c = low_next c.loop-low.invariant (rw c.in_default.is at c.block_high.ensures)

pub returns : goal.returns
returns c =
    kept refl (λ a h. c.loop-low.invariant a (omega (arith, h, c.open_to-low-end.ensures, c.loop-low-test.false)))
