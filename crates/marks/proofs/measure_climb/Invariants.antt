-- `measure_climb` meets its contract. The loop's invariant: the rows behind and the rows ahead are the climb's, and the
-- sums are those of the rows behind. The measure is the place, which falls at each step up. Short of t the climb stands
-- at a node (`node_in`).
use Rattle.arrays.specs.At.{at}
use Rattle.marks.proofs.Measuring.{Measuring}
use Rattle.marks.proofs.measure_climb.Given as goal

abbrev pub invariant-loop-v : goal.invariant-loop-v
invariant-loop-v l =
    Measuring l.s l.marks l.parent l.half l.place l.x l.t l.v l.length l.weight l.free

abbrev pub decreases-loop-v : goal.decreases-loop-v
decreases-loop-v l = at l.place l.v
