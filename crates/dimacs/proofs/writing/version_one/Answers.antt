-- `version_one`: each test refuses what fails it, and what passes all of them is of version 1.
use mathlib.Core.Path.{refl, sym, ◌∙◌}
use native.Mathlib.Omega.{arith}
use Rattle.table.specs.Refuse.{refused, passed}
use Rattle.dimacs.proofs.writing.version_one.Goals as goal
use Rattle.dimacs.proofs.writing.version_one.Goals.{
  then-s-ne82-via-then-s-ne82,
  then-s-ne82-via-else-s-ne82+then-s-ne84,
  then-s-ne82-via-else-s-ne82+else-s-ne84+then-s-ne78,
}

pub returns-then-s-lt12 : goal.returns-then-s-lt12
returns-then-s-lt12 c = rw c.rowless.ensures (refused (λ h. omega (arith, h, c.if-s-lt12.true)))

pub returns-then-s-ne82 : goal.returns-then-s-ne82
returns-then-s-ne82 c =
    rw c.rowless-then-s-ne82.ensures
    (passed (omega (arith, c.if-s-lt12.false)) (refused (λ h. elim c.then-s-ne82.branch [
      | then-s-ne82-via-then-s-ne82 w ↦ w.if-s-ne82.true h.0
      | then-s-ne82-via-else-s-ne82+then-s-ne84 w ↦ w.if-s-ne84.true h.1
      | then-s-ne82-via-else-s-ne82+else-s-ne84+then-s-ne78 w ↦ w.if-s-ne78.true h.2
    ])))

pub returns-then-two-ne1 : goal.returns-then-two-ne1
returns-then-two-ne1 c =
    rw c.rowless-then-two-ne1.ensures
    (passed (omega (arith, c.if-s-lt12.false))
    (passed (c.if-s-ne82.false, c.if-s-ne84.false, c.if-s-ne78.false)
    (refused (λ h. c.if-two-ne1.true (c.two.ensures.0 ∙ h)))))

pub returns : goal.returns
returns c =
    passed (omega (arith, c.if-s-lt12.false))
    (passed (c.if-s-ne82.false, c.if-s-ne84.false, c.if-s-ne78.false)
    (passed (sym c.two.ensures.0 ∙ c.if-two-ne1.false) refl))
