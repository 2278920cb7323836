use Rattle.arrays.specs.At.{at}
use Rattle.net.proofs.Along.{along_fits, along_row, along_less}
use Rattle.marks.proofs.Measuring.{measuring_start, measuring_step, measuring_end, one_most}
use Prim.Native.Nat.{ℕ, ◌/◌, ◌<◌}
use mathlib.Core.Path.{ap}
use native.Mathlib.Omega.{arith}
use Rattle.marks.proofs.measure_climb.Goals.{In-loop-v}
use Rattle.marks.proofs.measure_climb.Goals as goal

node_in : (c : In-loop-v) → c.loop-v.v < 4096
node_in c = along_fits c.loop-v.invariant.along c.loop-v-test.true

pub loop-v-init : goal.loop-v-init
loop-v-init c = measuring_start c.args.s.now c.requires.0

pub offset_bounds-half-v : goal.offset_bounds-half-v
offset_bounds-half-v c = omega (arith, node_in c)

pub bounds-half-v : goal.bounds-half-v
bounds-half-v c = omega (arith, node_in (goal.at.bounds-half-v c).In-loop-v)

pub overflow_add-length : goal.overflow_add-length
overflow_add-length c =
    let loop-inv = c.loop-v.invariant in
    omega (arith, loop-inv.most, loop-inv.along.short)

pub overflow_add-weight : goal.overflow_add-weight
overflow_add-weight c =
    let loop-inv = c.loop-v.invariant in
    omega (arith, loop-inv.high, loop-inv.along.short)

pub overflow_sub-weight : goal.overflow_sub-weight
overflow_sub-weight c =
    let loop-inv = c.loop-v.invariant in
    omega (arith, loop-inv.low, loop-inv.along.short)

pub offset_bounds-marks-r : goal.offset_bounds-marks-r
offset_bounds-marks-r c =
    let loop-test-taken = c.loop-v-test.true in
    let loop-inv = c.loop-v.invariant in
    let e = c.from-r.ensures in
    omega (arith, along_row loop-inv.along loop-test-taken)

pub bounds-marks-r : goal.bounds-marks-r
bounds-marks-r c =
    let loop-test-taken = c.loop-v-test.true in
    let loop-inv = c.loop-v.invariant in
    let e = c.from-r.ensures in
    omega (arith, along_row loop-inv.along loop-test-taken)

pub overflow_add-free : goal.overflow_add-free
overflow_add-free c =
    let wide-result = c.from-r.result in
    let loop-inv = c.loop-v.invariant in
    let args = c.args in
    omega (
      arith,
      c.one_free-free.ensures,
      loop-inv.least,
      loop-inv.along.short,
      one_most (at args.marks.now (wide-result / 2)),
    )

pub offset_bounds-parent-v : goal.offset_bounds-parent-v
offset_bounds-parent-v c = omega (arith, node_in (goal.at.offset_bounds-parent-v c).In-loop-v)

pub bounds-parent-v : goal.bounds-parent-v
bounds-parent-v c = omega (arith, node_in (goal.at.bounds-parent-v c).In-loop-v)

pub loop-v-smaller : goal.loop-v-smaller
loop-v-smaller c =
    let loop-test-taken = c.loop-v-test.true in
    let loop-inv = c.loop-v.invariant in
    let args = c.args in
    omega (arith, along_less loop-inv.along loop-test-taken, ap (at args.place.now) c.from-v.ensures)

pub loop-v-preserved : goal.loop-v-preserved
loop-v-preserved c =
    let lifted-under-ensures = c.lifted_under.ensures in
    let row-at-ensures = c.row_at.ensures in
    let from-ensures = c.from-r.ensures in
    let loop-test-taken = c.loop-v-test.true in
    let loop-inv = c.loop-v.invariant in
    let args = c.args in
    let pre = c.requires in
    measuring_step args.s.now pre.1 pre.0.many loop-inv loop-test-taken
    (ap (λ (z : ℕ). z / 2) from-ensures) row-at-ensures c.from-length.ensures lifted-under-ensures c.from.ensures
    c.one_free-free.ensures c.from-v.ensures

pub returns : goal.returns
returns c =
    let args = c.args in
    measuring_end args.s.now (omega (arith, c.loop-v-test.false)) c.loop-v.invariant
