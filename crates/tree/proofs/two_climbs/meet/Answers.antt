use Rattle.arrays.specs.At.{at}
use Rattle.tree.proofs.Meeting.{meeting_start, meeting_step, meeting_flip, meeting_end, later_low, apart_later}
use Prim.Native.Nat.{◌<◌}
use mathlib.Core.Path.{ap}
use native.Mathlib.Omega.{arith}
use Rattle.tree.proofs.two_climbs.meet.Goals.{At-loop-a}
use Rattle.tree.proofs.two_climbs.meet.Goals as goal

a_in : (c : At-loop-a) → c.loop-a.a < 4096
a_in c = omega (arith, c.loop-a.invariant.fits_a, c.requires.0.few)

b_in : (c : At-loop-a) → c.loop-a.b < 4096
b_in c = omega (arith, c.loop-a.invariant.fits_b, c.requires.0.few)

pub loop-a-init : goal.loop-a-init
loop-a-init c = meeting_start _ c.requires.1 c.requires.2

pub offset_bounds-place-a : goal.offset_bounds-place-a
offset_bounds-place-a c = omega (arith, a_in (goal.at.offset_bounds-place-a c).At-loop-a)

pub bounds-place-a : goal.bounds-place-a
bounds-place-a c = omega (arith, a_in (goal.at.bounds-place-a c).At-loop-a)

pub offset_bounds-place-b : goal.offset_bounds-place-b
offset_bounds-place-b c = omega (arith, b_in (goal.at.offset_bounds-place-b c).At-loop-a)

pub bounds-place-b : goal.bounds-place-b
bounds-place-b c = omega (arith, b_in (goal.at.bounds-place-b c).At-loop-a)

pub offset_bounds-parent-b : goal.offset_bounds-parent-b
offset_bounds-parent-b c = omega (arith, b_in (goal.at.offset_bounds-parent-b c).At-loop-a)

pub bounds-parent-b : goal.bounds-parent-b
bounds-parent-b c = omega (arith, b_in (goal.at.bounds-parent-b c).At-loop-a)

pub loop-a-smaller-then-place-a : goal.loop-a-smaller-then-place-a
loop-a-smaller-then-place-a c =
    let loop-inv = c.loop-a.invariant in
    let args = c.args in
    let pre = c.requires in
    let z = later_low pre.0 loop-inv.fits_a c.if-place-a.true in
    omega (arith, pre.0.earlier _ loop-inv.fits_b z, ap (at args.place.now) c.from-b.ensures)

pub loop-a-preserved-then-place-a : goal.loop-a-preserved-then-place-a
loop-a-preserved-then-place-a c =
    let loop-inv = c.loop-a.invariant in
    let pre = c.requires in
    meeting_flip (meeting_step pre.0 c.if-place-a.true c.from-b.ensures (meeting_flip loop-inv))

pub offset_bounds-parent-a : goal.offset_bounds-parent-a
offset_bounds-parent-a c = omega (arith, a_in (goal.at.offset_bounds-parent-a c).At-loop-a)

pub bounds-parent-a : goal.bounds-parent-a
bounds-parent-a c = omega (arith, a_in (goal.at.bounds-parent-a c).At-loop-a)

pub loop-a-smaller : goal.loop-a-smaller
loop-a-smaller c =
    let loop-test-taken = c.loop-a-test.true in
    let loop-inv = c.loop-a.invariant in
    let args = c.args in
    let pre = c.requires in
    let l = apart_later pre.0 loop-inv.fits_a loop-inv.fits_b loop-test-taken
    (omega arith) in
    let z = later_low pre.0 loop-inv.fits_b l in
    omega (arith, pre.0.earlier _ loop-inv.fits_a z, ap (at args.place.now) c.from-a.ensures)

pub loop-a-preserved : goal.loop-a-preserved
loop-a-preserved c =
    let loop-test-taken = c.loop-a-test.true in
    let loop-inv = c.loop-a.invariant in
    let pre = c.requires in
    meeting_step pre.0
    (apart_later pre.0 loop-inv.fits_a loop-inv.fits_b loop-test-taken
    (omega arith))
    c.from-a.ensures loop-inv

pub returns : goal.returns
returns c = (meeting_end (omega (arith, c.loop-a-test.false)) c.loop-a.invariant, c.loop-a.invariant.fits_a)
