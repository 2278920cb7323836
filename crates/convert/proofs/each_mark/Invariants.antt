-- `convert::each_mark` meets its contract. The loop's invariant: each mark before row r reads as it did.
use Rattle.convert.proofs.Readings.{Behind}
use Rattle.convert.proofs.each_mark.Given as goal

abbrev pub invariant-loop-r : goal.invariant-loop-r
invariant-loop-r l = Behind l.marks l.r
