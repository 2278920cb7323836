use borrow.Author.Count.{below_more}
use native.Mathlib.Omega.{arith}
use Rattle.mesh.proofs.rows.first_bad.Goals as goal

pub loop-r-init : goal.loop-r-init
loop-r-init c = λ i h. absurd (omega arith)

pub row_number-requires : goal.row_number-requires
row_number-requires c =
    let pre = c.requires in
    (pre.0 _ c.loop-r-test.true, pre.1)

pub returns-in-Some : goal.returns-in-Some
returns-in-Some c =
    record {
      within = c.loop-r-test.true;
      before = c.loop-r.invariant;
      here = c.in-Some.ensures.0;
      bad = c.in-Some.ensures.1;
    }

pub loop-r-preserved : goal.loop-r-preserved
loop-r-preserved c = below_more _ _ c.loop-r.invariant c.in_default.ensures

pub returns : goal.returns
returns c = λ i h. c.loop-r.invariant i (omega arith)
