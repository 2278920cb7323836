-- `table::rows` meets its contract: a row that meets a number is the first such.
use Rattle.std.proofs.Common.{arith, refl}
use borrow.Author.Count.{below_more}
use Rattle.table.specs.Refuse.{bad, fine}
use Rattle.table.proofs.rows.Goals as goal

pub returns-in-Some : goal.returns-in-Some
returns-in-Some c =
    let q = c.in-Some.ensures in
    bad c.loop-r.r _ (omega arith) c.loop-r.invariant q.number (λ e. let h = q.met e in cc)

pub loop-r-preserved : goal.loop-r-preserved
loop-r-preserved c = below_more _ _ c.loop-r.invariant c.in_default.ensures.number

pub returns : goal.returns
returns c = fine (λ i h. c.loop-r.invariant i (omega arith)) refl
