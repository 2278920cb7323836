-- `changes::along::claim_path` meets its contract: the two climbs up to where they meet make the path, so their lengths
-- and free rows add up to the path's.
use Rattle.reach.proofs.NetWalk.{walk_climb}
use Rattle.tree.proofs.Meeting.{walk_hung}
use Rattle.changes.proofs.Claims.{too_long, all_marked, all_taken}
use mathlib.Core.Path.{◌∙◌}
use native.Mathlib.Omega.{arith}
use Rattle.changes.proofs.along.claim_path.Goals as goal

pub meet-t-requires : goal.meet-t-requires
meet-t-requires c =
    let pre = c.requires in (
      rw c.from.ensures (walk_hung pre.0.net pre.1.walked),
      omega (arith, c.from-x.ensures, c.from.ensures, pre.0.pair.first),
      omega (arith, c.from-y.ensures, c.from.ensures, pre.0.pair.second),
    )

pub measure_climb-ups-requires : goal.measure_climb-ups-requires
measure_climb-ups-requires c =
    let from-x = c.from-x.ensures in
    let pre = c.requires in
    walk_climb pre.0.net pre.1.walked pre.0.many (omega (arith, from-x, pre.0.pair.first))
    c.meet-t.ensures.0.first

pub measure_climb-downs-requires : goal.measure_climb-downs-requires
measure_climb-downs-requires c =
    let meet-ensures = c.meet-t.ensures in
    let from-y = c.from-y.ensures in
    let pre = c.requires in
    walk_climb pre.0.net pre.1.walked pre.0.many (omega (arith, from-y, pre.0.pair.second))
    meet-ensures.0.second

pub overflow_add-ups : goal.overflow_add-ups
overflow_add-ups c =
    let downs = c.measure_climb-downs.ensures in
    let ups = c.measure_climb-ups.ensures in
    omega (arith, ups.most, downs.most)

pub returns-then-from-ups : goal.returns-then-from-ups
returns-then-from-ups c =
    let long-ensures = c.from-2.ensures in
    let downs = c.measure_climb-downs.ensures in
    let ups = c.measure_climb-ups.ensures in
    let meet-ensures = c.meet-t.ensures in
    let ey = c.from-y.ensures in
    let ex = c.from-x.ensures in
    let pre = c.requires in
    too_long pre.0.net pre.1 pre.0 (rw (ex, ey) at meet-ensures.0) (rw ex at ups) (rw ey at downs)
    (omega (arith, c.if-from-ups.true, long-ensures))

pub overflow_add-free : goal.overflow_add-free
overflow_add-free c =
    let downs = c.measure_climb-downs.ensures in
    let ups = c.measure_climb-ups.ensures in
    omega (arith, ups.least, downs.least)

pub returns-then-free-eq0 : goal.returns-then-free-eq0
returns-then-free-eq0 c =
    let if1-left = c.if-from-ups.false in
    let long-ensures = c.from-2.ensures in
    let downs = c.measure_climb-downs.ensures in
    let ups = c.measure_climb-ups.ensures in
    let meet-ensures = c.meet-t.ensures in
    let ey = c.from-y.ensures in
    let ex = c.from-x.ensures in
    let pre = c.requires in
    all_marked pre.0.net pre.1 pre.0 (rw (ex, ey) at meet-ensures.0) (rw ex at ups) (rw ey at downs)
    (omega (arith, if1-left, long-ensures)) c.if-free-eq0.true

pub hold-requires : goal.hold-requires
hold-requires c =
    let meet-ensures = c.meet-t.ensures in
    let from-x = c.from-x.ensures in
    let pre = c.requires in (
      (walk_climb pre.0.net pre.1.walked pre.0.many (omega (arith, from-x, pre.0.pair.first))
          meet-ensures.0.first).0,
      pre.0.number.above,
    )

pub hold-requires-2 : goal.hold-requires-2
hold-requires-2 c =
    let hold-ensures = c.hold.ensures in
    let meet-ensures = c.meet-t.ensures in
    let from-y = c.from-y.ensures in
    let pre = c.requires in (
      (walk_climb pre.0.net pre.1.walked (hold-ensures.held.same_many ∙ pre.0.many)
          (omega (arith, from-y, pre.0.pair.second)) meet-ensures.0.second).0,
      pre.0.number.above,
    )

pub shape_of-marks : goal.shape_of-marks
shape_of-marks c =
    let hold-ensures = c.hold.ensures in
    c.hold-2.ensures.held.same_many ∙ hold-ensures.held.same_many

pub returns : goal.returns
returns c =
    let hold-ensures = c.hold.ensures in
    let if2-left = c.if-free-eq0.false in
    let if1-left = c.if-from-ups.false in
    let long-ensures = c.from-2.ensures in
    let downs = c.measure_climb-downs.ensures in
    let ups = c.measure_climb-ups.ensures in
    let meet-ensures = c.meet-t.ensures in
    let ey = c.from-y.ensures in
    let ex = c.from-x.ensures in
    let pre = c.requires in
    all_taken pre.0.net pre.1 pre.0 (rw (ex, ey) at meet-ensures.0) (rw ex at ups) (rw ey at downs)
    (omega (arith, if1-left, long-ensures)) if2-left (rw ex at hold-ensures)
    (rw ey at c.hold-2.ensures)
