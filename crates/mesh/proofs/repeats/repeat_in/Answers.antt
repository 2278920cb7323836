use mathlib.Core.Path.{◌≡◌}
use Rattle.arrays.proofs.Fills.{filled}
use Rattle.mesh.proofs.Repeating.{passing_start, slot_low, passing_found, passing_next, passing_end}
use native.Mathlib.Omega.{arith}
use Rattle.mesh.proofs.repeats.repeat_in.Goals as goal

pub loop-r-init : goal.loop-r-init
loop-r-init c = passing_start c.requires.0.rows (filled _ _)

pub first_end-requires : goal.first_end-requires
first_end-requires c = c.requires.0.stands _ c.loop-r-test.true

pub second_end-requires : goal.second_end-requires
second_end-requires c =
    let pre = c.requires in
    pre.0.stands _ c.loop-r-test.true

pub cell-requires : goal.cell-requires
cell-requires c =
    let loop-test-taken = c.loop-r-test.true in
    let pre = c.requires in (
      omega (arith, c.first_end.ensures, pre.0.rows.first _ loop-test-taken),
      omega (arith, c.second_end.ensures, pre.0.rows.second _ loop-test-taken),
    )

pub slot-j-requires : goal.slot-j-requires
slot-j-requires c = c.requires.1

pub bounds-seen-j : goal.bounds-seen-j
bounds-seen-j c =
    let first-end-ensures = c.first_end.ensures in
    let loop-test-taken = c.loop-r-test.true in
    let loop-inv = c.loop-r.invariant in
    omega (
      arith,
      slot_low loop-inv loop-test-taken _ _
          (rw (first-end-ensures, c.second_end.ensures) at c.cell.ensures)
          c.slot-j.ensures,
    )

pub returns-then-seen-j-ne0 : goal.returns-then-seen-j-ne0
returns-then-seen-j-ne0 c =
    let second-end-ensures = c.second_end.ensures in
    let first-end-ensures = c.first_end.ensures in
    let loop-test-taken = c.loop-r-test.true in
    let loop-inv = c.loop-r.invariant in
    passing_found loop-inv loop-test-taken _ _
    (rw (first-end-ensures, second-end-ensures) at c.cell.ensures) c.slot-j.ensures
    c.if-seen-j-ne0.true

pub bounds-seen-j-in-loop-r : goal.bounds-seen-j-in-loop-r
bounds-seen-j-in-loop-r c =
    let cell-ensures = c.cell.ensures in
    let second-end-ensures = c.second_end.ensures in
    let first-end-ensures = c.first_end.ensures in
    let loop-test-taken = c.loop-r-test.true in
    let loop-inv = c.loop-r.invariant in
    omega (
      arith,
      slot_low loop-inv loop-test-taken _ _ (rw (first-end-ensures, second-end-ensures) at cell-ensures)
          c.slot-j.ensures,
    )

pub loop-r-preserved : goal.loop-r-preserved
loop-r-preserved c =
    let cell-ensures = c.cell.ensures in
    let second-end-ensures = c.second_end.ensures in
    let first-end-ensures = c.first_end.ensures in
    let loop-test-taken = c.loop-r-test.true in
    let loop-inv = c.loop-r.invariant in
    passing_next loop-inv loop-test-taken _ _ (rw (first-end-ensures, second-end-ensures) at cell-ensures)
    c.slot-j.ensures c.if-seen-j-ne0.false c.seen_as.ensures

pub returns : goal.returns
returns c =
    let e : c.loop-r.r ≡ c.args.limit = omega arith in
    rw e at (passing_end c.loop-r.invariant (λ h. omega arith))
