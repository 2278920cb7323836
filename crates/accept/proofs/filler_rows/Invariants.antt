-- `filler_rows`: so many of the rows before row r are filler.
use Prim.Native.Nat.{◌≤◌}
use Rattle.net.specs.Count.{Count}
use Rattle.accept.specs.Accept.{FillerBelow}
use Rattle.accept.proofs.filler_rows.Given as goal

abbrev pub invariant-loop-r : goal.invariant-loop-r
invariant-loop-r l = (l.filler ≤ l.r) × Count (FillerBelow l.s l.r) l.filler
