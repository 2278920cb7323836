use Rattle.mesh.proofs.Repeating.{top_low, repeating_next, repeating_end}
use Rattle.mesh.proofs.Reading.{wide_readable, less_readable}
use native.Mathlib.Omega.{arith}
use Rattle.mesh.proofs.repeats.first_repeat.Goals as goal
use Rattle.mesh.proofs.repeats.first_repeat.Goals.{
  else-loop-from-test,
  then-loop-from-test+else-from-end-from-gt16384,
}

pub loop-from-init : goal.loop-from-init
loop-from-init c =
    let pre = c.requires in
    record {
      rows = pre.rows;
      few = pre.few;
      size = c.top-r.ensures;
      within = omega arith;
      before = λ i d h e b. absurd (omega arith);
      here = λ h. absurd (omega arith);
    }

pub repeat_in-r-requires : goal.repeat_in-r-requires
repeat_in-r-requires c =
    let pre = c.requires in
    let s = c.loop-from.invariant in
    (less_readable (omega (arith, s.within, top_low s.size)) (wide_readable pre), omega (arith, s.few))

pub loop-from-preserved : goal.loop-from-preserved
loop-from-preserved c = repeating_next c.loop-from.invariant c.repeat_in-r.ensures

pub returns-then-r-head : goal.returns-then-r-head
returns-then-r-head c = elim c.loop-from-test.branch [
  | else-loop-from-test w ↦
      rw w.r-is ((repeating_end c.loop-from.invariant (λ h. omega arith)).0 (omega arith))
  | then-loop-from-test+else-from-end-from-gt16384 w ↦
      let h = repeating_next c.loop-from.invariant w.repeat_in-r.ensures in
      rw w.r-is ((repeating_end h (λ h. omega arith)).0 (omega arith))
]

pub returns-else-r-head : goal.returns-else-r-head
returns-else-r-head c = elim c.loop-from-test.branch [
  | else-loop-from-test w ↦ (repeating_end c.loop-from.invariant (λ h. omega arith)).1 (omega arith)
  | then-loop-from-test+else-from-end-from-gt16384 w ↦
      let h = repeating_next c.loop-from.invariant w.repeat_in-r.ensures in
      (repeating_end h (λ h. omega arith)).1 (omega arith)
]
