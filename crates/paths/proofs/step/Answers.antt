-- `paths::step` adds the branch or takes it off; it fits by what is asked.
use native.Mathlib.Omega.{arith}
use Rattle.paths.proofs.step.Goals as goal

pub overflow_sub-result : goal.overflow_sub-result
overflow_sub-result c = omega (arith, c.requires.nearer c.if-flag-eq1.true)

pub returns-then-flag-eq1 : goal.returns-then-flag-eq1
returns-then-flag-eq1 c =
    let pre = c.requires in
    let h = pre.nearer c.if-flag-eq1.true in
    record {
      near_l = λ _. omega (arith, h);
      near_w = λ _. omega (arith, pre.w_big, pre.y_small);
      far_l = λ m. absurd (m c.if-flag-eq1.true);
      far_w = λ m. absurd (m c.if-flag-eq1.true);
    }
