use Rattle.spines.proofs.HopsCounted.{passing_start, passing_end, passing_fits, passing_few, passing_less, passing_step}
use native.Mathlib.Omega.{arith}
use Rattle.spines.proofs.climbs.passed_heads.Goals as goal

pub loop-v-init : goal.loop-v-init
loop-v-init c = (c.requires, λ k. passing_start k)

pub one-passed-requires : goal.one-passed-requires
one-passed-requires c = let h = c.loop-v.invariant in passing_fits h.0 (h.1 h.0)

pub overflow_add-passed : goal.overflow_add-passed
overflow_add-passed c =
    let h = c.loop-v.invariant in
    omega (arith, passing_few h.0 (h.1 h.0), c.one-passed.ensures.most)

pub offset_bounds-parent-v : goal.offset_bounds-parent-v
offset_bounds-parent-v c = let h = c.loop-v.invariant in omega (arith, passing_fits h.0 (h.1 h.0))

pub bounds-parent-v : goal.bounds-parent-v
bounds-parent-v c = let h = c.loop-v.invariant in omega (arith, passing_fits h.0 (h.1 h.0))

pub loop-v-smaller : goal.loop-v-smaller
loop-v-smaller c =
    let loop-test-taken = c.loop-v-test.true in
    let h = c.loop-v.invariant in
    rw c.from-v.ensures (passing_less h.0 (h.1 h.0) loop-test-taken)

pub loop-v-preserved : goal.loop-v-preserved
loop-v-preserved c =
    let loop-test-taken = c.loop-v-test.true in
    let h = c.loop-v.invariant in
    (h.0, λ k. passing_step k (h.1 k) loop-test-taken c.from-v.ensures c.one-passed.ensures)

pub returns : goal.returns
returns c = λ k. passing_end k c.loop-v-test.false (c.loop-v.invariant.1 k)
