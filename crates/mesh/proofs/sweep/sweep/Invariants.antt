-- `sweep` meets its contract. The loop's invariant: the nodes at the places below j have their values.
use Rattle.mesh.proofs.Sweeping.{Sweeping}
use Rattle.mesh.proofs.sweep.sweep.Given as goal

abbrev pub invariant-loop-j : goal.invariant-loop-j
invariant-loop-j l = Sweeping l.n l.tree.par l.tree.order l.bands.over l.j l.swept.most l.swept.base l.swept.climb
