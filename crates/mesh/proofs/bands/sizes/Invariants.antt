-- `sizes` meets its contract. The loop's invariant: the nodes below x are named and counted.
use Rattle.mesh.proofs.Sizing.{Sizing}
use Rattle.mesh.proofs.bands.sizes.Given as goal

abbrev pub invariant-loop-x : goal.invariant-loop-x
invariant-loop-x l = Sizing l.n l.initial.bands.over l.x l.bands.over l.bands.size
