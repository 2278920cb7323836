-- `link` meets its contract: the root of lower rank goes below; where both are equal, the other's rank grows.
use mathlib.Core.Logic.{inl, inr}
use native.Mathlib.Omega.{arith}
use Rattle.ring.proofs.Union.{put_low, put_equal}
use Rattle.ring.proofs.link.Goals as goal

pub returns-then-b-a : goal.returns-then-b-a
returns-then-b-a c = inr (put_low _ _ _ _ (omega arith))

pub returns-then-a-b : goal.returns-then-a-b
returns-then-a-b c = inl (put_equal _ _ _ _ (omega arith) c.requires.apart (omega arith))

pub returns-else-a-b : goal.returns-else-a-b
returns-else-a-b c = inl (put_low _ _ _ _ (omega arith))
