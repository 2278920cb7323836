use mathlib.Core.Path.{sym, ◌∙◌}
use native.Mathlib.Omega.{arith}
use Rattle.numbers.proofs.Stored.{bytes_step, bytes_none}
use Rattle.numbers.proofs.put_bytes.Goals as goal

pub loop-p-preserved : goal.loop-p-preserved
loop-p-preserved c = bytes_step _ _ _ _ (omega arith) ∙ c.loop-p.invariant

pub returns : goal.returns
returns c = sym (bytes_none _ _ _ _ (omega arith)) ∙ c.loop-p.invariant
