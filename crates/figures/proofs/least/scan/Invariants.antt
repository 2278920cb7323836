-- `figures::least::scan` meets its contract: m is the least of the places from begin to below k.
use Prim.Native.Nat.{◌≤◌}
use Rattle.arrays.specs.At.{at}
use Rattle.figures.specs.work.Bins.{LeastOrNone}
use Rattle.figures.proofs.least.scan.Given as goal

abbrev pub invariant-loop-k : goal.invariant-loop-k
invariant-loop-k l = (l.begin ≤ l.k) × (l.k ≤ l.end) × LeastOrNone (at l.above) l.begin l.k l.m
