use borrow.Author.Count.{below_more}
use native.Mathlib.Omega.{arith}
use Rattle.mesh.proofs.hang.leads.Goals as goal

pub loop-r-init : goal.loop-r-init
loop-r-init c = λ i h. absurd (omega arith)

pub first_end-requires : goal.first_end-requires
first_end-requires c = c.requires.stands _ (omega arith)

pub offset_bounds-place-first_end : goal.offset_bounds-place-first_end
offset_bounds-place-first_end c =
    let pre = c.requires in
    omega (arith, c.first_end.ensures, pre.rows.first _ c.loop-r-test.true)

pub bounds-place-first_end : goal.bounds-place-first_end
bounds-place-first_end c =
    let pre = c.requires in
    omega (arith, c.first_end.ensures, pre.rows.first _ c.loop-r-test.true)

pub second_end-requires : goal.second_end-requires
second_end-requires c = c.requires.stands _ (omega arith)

pub offset_bounds-place-second_end : goal.offset_bounds-place-second_end
offset_bounds-place-second_end c =
    let loop-test-taken = c.loop-r-test.true in
    let pre = c.requires in
    omega (arith, c.second_end.ensures, pre.rows.second _ loop-test-taken)

pub bounds-place-second_end : goal.bounds-place-second_end
bounds-place-second_end c =
    let loop-test-taken = c.loop-r-test.true in
    let pre = c.requires in
    omega (arith, c.second_end.ensures, pre.rows.second _ loop-test-taken)

pub returns-then-lone : goal.returns-then-lone
returns-then-lone c =
    let second-end-ensures = c.second_end.ensures in
    let first-end-ensures = c.first_end.ensures in
    record {
      within = c.loop-r-test.true;
      before = c.loop-r.invariant;
      here = rw (first-end-ensures, second-end-ensures) at (c.lone.ensures.0 c.if-lone.true);
    }

pub loop-r-preserved : goal.loop-r-preserved
loop-r-preserved c =
    let second-end-ensures = c.second_end.ensures in
    let first-end-ensures = c.first_end.ensures in
    below_more _ _ c.loop-r.invariant
    (rw (first-end-ensures, second-end-ensures) at (c.lone.ensures.1 c.if-lone.false))

pub returns : goal.returns
returns c = λ i h. c.loop-r.invariant i (omega arith)
