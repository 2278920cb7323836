-- `digits_of` divides by 10 until one digit is left: a number has one digit more than its tenth part.
use Rattle.text.proofs.Writing.{Sizing}
use Rattle.text.proofs.digits_of.Given as goal

abbrev pub invariant-loop-rest : goal.invariant-loop-rest
invariant-loop-rest l = Sizing l.x l.rest l.k

abbrev pub decreases-loop-rest : goal.decreases-loop-rest
decreases-loop-rest l = l.rest
