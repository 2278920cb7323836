use native.Mathlib.Omega.{arith}
use Rattle.roads.proofs.Skipping.{skip_none, skip_more, skip_found, skip_out}
use Rattle.roads.proofs.line.line_end.Goals as goal

pub loop-i-init : goal.loop-i-init
loop-i-init c = skip_none _ _

pub returns-then-s-i-eq-LINE_END : goal.returns-then-s-i-eq-LINE_END
returns-then-s-i-eq-LINE_END c = skip_found c.loop-i.invariant (omega arith) (omega arith)

pub loop-i-preserved : goal.loop-i-preserved
loop-i-preserved c = skip_more c.loop-i.invariant (omega arith) (omega arith)

pub returns : goal.returns
returns c = skip_out c.loop-i.invariant (omega arith)
