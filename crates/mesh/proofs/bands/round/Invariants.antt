-- `round` meets its contract. The loop's invariant, whichever row it is: the climb has come to x and y.
use Rattle.mesh.proofs.Climbs.{Climb}
use Rattle.mesh.specs.work.Bands.{Round}
use Rattle.arrays.specs.At.{at}
use mathlib.Core.List.{List}
use Prim.Native.Nat.{ℕ, ◌+◌}
use Rattle.mesh.proofs.bands.round.Given as goal

abbrev pub invariant-loop-x : goal.invariant-loop-x
invariant-loop-x l =
    (u v : ℕ → ℕ) (k n a : ℕ) (order : List ℕ) (r : ℕ)
    → Round u v k n a l.tree.par order l.tree.place r l.p l.q l.initial.over
    → Climb u v k n a l.tree.par order l.tree.place r l.band l.x l.y l.over

abbrev pub decreases-loop-x : goal.decreases-loop-x
decreases-loop-x l = at l.tree.place l.x + at l.tree.place l.y
