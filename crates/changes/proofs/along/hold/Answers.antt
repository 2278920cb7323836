use Rattle.arrays.specs.At.{at}
use Rattle.net.proofs.Along.{along_fits, along_less}
use Rattle.changes.proofs.Climbing.{taking_start, taking_row, taking_step, taking_end}
use Prim.Native.Nat.{◌/◌, ◌<◌, ℕ}
use mathlib.Core.Path.{ap}
use native.Mathlib.Omega.{arith}
use Rattle.changes.proofs.along.hold.Goals.{In-loop-v}
use Rattle.changes.proofs.along.hold.Goals as goal

node_in : (c : In-loop-v) → c.loop-v.v < 4096
node_in c = along_fits c.loop-v.invariant.along c.loop-v-test.true

pub loop-v-init : goal.loop-v-init
loop-v-init c = taking_start c.requires.0

pub offset_bounds-walk-v : goal.offset_bounds-walk-v
offset_bounds-walk-v c = omega (arith, node_in c)

pub bounds-walk-v : goal.bounds-walk-v
bounds-walk-v c = omega (arith, node_in (goal.at.bounds-walk-v c).In-loop-v)

pub take-requires : goal.take-requires
take-requires c =
    let loop-test-taken = c.loop-v-test.true in
    let loop-inv = c.loop-v.invariant in
    let e = c.from-r.ensures in
    omega (arith, taking_row loop-test-taken loop-inv)

pub offset_bounds-walk-v-in-loop-v : goal.offset_bounds-walk-v-in-loop-v
offset_bounds-walk-v-in-loop-v c = omega (arith, node_in (goal.at.offset_bounds-walk-v-in-loop-v c).In-loop-v)

pub bounds-walk-v-in-loop-v : goal.bounds-walk-v-in-loop-v
bounds-walk-v-in-loop-v c = omega (arith, node_in (goal.at.bounds-walk-v-in-loop-v c).In-loop-v)

pub loop-v-smaller : goal.loop-v-smaller
loop-v-smaller c =
    let loop-test-taken = c.loop-v-test.true in
    let loop-inv = c.loop-v.invariant in
    let args = c.args in
    omega (arith, along_less loop-inv.along loop-test-taken, ap (at args.walk.now.place) c.from-v.ensures)

pub loop-v-preserved : goal.loop-v-preserved
loop-v-preserved c =
    let take-ensures = c.take.ensures in
    let from-ensures = c.from-r.ensures in
    let loop-test-taken = c.loop-v-test.true in
    let loop-inv = c.loop-v.invariant in
    let pre = c.requires in
    taking_step (λ e. omega (arith, pre.1)) loop-inv loop-test-taken (ap (λ (z : ℕ). z / 2) from-ensures)
    c.from-v.ensures take-ensures

pub shape_of-marks : goal.shape_of-marks
shape_of-marks c = c.loop-v.invariant.held.same_many

pub returns : goal.returns
returns c = taking_end (omega (arith, c.loop-v-test.false)) c.loop-v.invariant
