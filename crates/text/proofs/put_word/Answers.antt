use native.Mathlib.Omega.{arith}
use Rattle.text.proofs.Writing.{word_next, word_put}
use Rattle.text.proofs.put_word.Goals as goal

pub loop-i-preserved : goal.loop-i-preserved
loop-i-preserved c = word_next _ _ _ c.loop-i.invariant (omega arith)

pub returns : goal.returns
returns c = word_put (omega arith) (omega arith) c.loop-i.invariant
