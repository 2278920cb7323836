-- `farthest` meets its contract. The loop's invariant: z is the first of the nodes below x with the greatest value.
use Rattle.mesh.specs.work.Sweep.{Farthest}
use Prim.Native.Nat.{◌≤◌}
use Rattle.mesh.proofs.sweep.farthest.Given as goal

abbrev pub invariant-loop-x : goal.invariant-loop-x
invariant-loop-x l = (l.x ≤ l.n) × Farthest l.x l.d l.z
