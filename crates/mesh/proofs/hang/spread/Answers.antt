use Rattle.mesh.proofs.Growing.{
  grown_start,
  room,
  c_fits,
  grown_push,
  new_low,
  end_new,
  spread_end,
  spread_hung,
  spread_apart,
}
use Rattle.mesh.proofs.Reading.{wide_readable}
use native.Mathlib.Omega.{arith}
use Rattle.mesh.proofs.hang.spread.Goals as goal

pub loop-r-init : goal.loop-r-init
loop-r-init c =
    let pre = c.requires in
    record {
      rows = pre.0.rows;
      grown = grown_start pre.0.few pre.1 c.start.ensures;
    }

pub first_end-p-requires : goal.first_end-p-requires
first_end-p-requires c =
    let pre = c.requires in
    pre.0.stands _ c.in-Some.ensures.within

pub second_end-q-requires : goal.second_end-q-requires
second_end-q-requires c =
    let pre = c.requires in
    pre.0.stands _ c.in-Some.ensures.within

pub offset_bounds-tree-p : goal.offset_bounds-tree-p
offset_bounds-tree-p c =
    let loop-inv = c.loop-r.invariant in
    let pre = c.requires in
    omega (
      arith,
      c.first_end-p.ensures,
      loop-inv.rows.first _ c.in-Some.ensures.within,
      pre.0.few,
    )

pub bounds-tree-p : goal.bounds-tree-p
bounds-tree-p c =
    let loop-inv = c.loop-r.invariant in
    let pre = c.requires in
    omega (
      arith,
      c.first_end-p.ensures,
      loop-inv.rows.first _ c.in-Some.ensures.within,
      pre.0.few,
    )

pub overflow_add-d : goal.overflow_add-d
overflow_add-d c =
    let first-end-ensures = c.first_end-p.ensures in
    let loop-inv = c.loop-r.invariant in
    let pre = c.requires in
    omega (
      arith,
      first-end-ensures,
      c.second_end-q.ensures,
      loop-inv.rows.first _ c.in-Some.ensures.within,
      loop-inv.rows.second _ c.in-Some.ensures.within,
      pre.0.few,
    )

pub overflow_sub-d : goal.overflow_sub-d
overflow_sub-d c =
    let first-end-ensures = c.first_end-p.ensures in
    let loop-inv = c.loop-r.invariant in
    omega (
      arith,
      new_low loop-inv c.in-Some.ensures _ _ _ first-end-ensures c.second_end-q.ensures c.new_end-c.ensures,
    )

pub hang-requires : goal.hang-requires
hang-requires c =
    let new-end-ensures = c.new_end-c.ensures in
    let second-end-ensures = c.second_end-q.ensures in
    let first-end-ensures = c.first_end-p.ensures in
    let loop-inv = c.loop-r.invariant in
    let t = end_new loop-inv c.in-Some.ensures _ _ _ first-end-ensures second-end-ensures new-end-ensures in
    (room t, (c_fits t).0, (c_fits t).1)

pub overflow_add-m : goal.overflow_add-m
overflow_add-m c =
    let new-end-ensures = c.new_end-c.ensures in
    let second-end-ensures = c.second_end-q.ensures in
    let first-end-ensures = c.first_end-p.ensures in
    let loop-inv = c.loop-r.invariant in
    omega (arith, room (end_new loop-inv c.in-Some.ensures _ _ _ first-end-ensures second-end-ensures new-end-ensures))

pub leads-requires : goal.leads-requires
leads-requires c = wide_readable c.requires.0

pub loop-r-smaller : goal.loop-r-smaller
loop-r-smaller c =
    let new-end-ensures = c.new_end-c.ensures in
    let second-end-ensures = c.second_end-q.ensures in
    let first-end-ensures = c.first_end-p.ensures in
    let loop-inv = c.loop-r.invariant in
    omega (arith, room (end_new loop-inv c.in-Some.ensures _ _ _ first-end-ensures second-end-ensures new-end-ensures))

pub loop-r-preserved : goal.loop-r-preserved
loop-r-preserved c =
    let hang-ensures = c.hang.ensures in
    let new-end-ensures = c.new_end-c.ensures in
    let second-end-ensures = c.second_end-q.ensures in
    let first-end-ensures = c.first_end-p.ensures in
    let loop-inv = c.loop-r.invariant in
    record {
      rows = loop-inv.rows;
      grown = rw (hang-ensures.0, hang-ensures.1, hang-ensures.2)
          (grown_push (end_new loop-inv c.in-Some.ensures _ _ _ first-end-ensures second-end-ensures new-end-ensures));
    }

pub missing-requires : goal.missing-requires
missing-requires c = c.requires.0.few

pub returns-then-missing : goal.returns-then-missing
returns-then-missing c =
    spread_apart (spread_end c.loop-r.invariant c.in_default.ensures) (c.missing.ensures.0 c.if-missing.true)

pub returns : goal.returns
returns c =
    let loop-inv = c.loop-r.invariant in
    spread_hung (spread_end loop-inv c.in_default.ensures) loop-inv.rows (c.missing.ensures.1 c.if-missing.false)
