use native.Mathlib.Omega.{arith}
use Rattle.roads.proofs.Skipping.{passing_none, passing_more, passing_other, passing_unended, passing_out}
use Rattle.roads.proofs.line.past_comments.Goals as goal

pub loop-i-init : goal.loop-i-init
loop-i-init c = passing_none _ _

pub returns-then-s-i-ne-COMMENT : goal.returns-then-s-i-ne-COMMENT
returns-then-s-i-ne-COMMENT c = passing_other c.loop-i.invariant (omega arith) (omega arith)

pub returns-in_default : goal.returns-in_default
returns-in_default c =
    let loop-inv = c.loop-i.invariant in
    passing_unended loop-inv (omega arith) (rw c.in_default.is at c.line_end.ensures)

pub loop-i-smaller : goal.loop-i-smaller
loop-i-smaller c =
    let line-end-ensures = c.line_end.ensures in
    let loop-inv = c.loop-i.invariant in
    let h = passing_more loop-inv (omega arith) (omega arith) (rw c.in-Some.is at line-end-ensures) in
    omega (arith, h.1.on)

pub loop-i-preserved : goal.loop-i-preserved
loop-i-preserved c =
    let line-end-ensures = c.line_end.ensures in
    let loop-inv = c.loop-i.invariant in
    (passing_more loop-inv (omega arith) (omega arith) (rw c.in-Some.is at line-end-ensures)).0

pub returns : goal.returns
returns c = passing_out c.loop-i.invariant (omega arith)
