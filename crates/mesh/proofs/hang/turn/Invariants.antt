-- `turn` meets its contract. The first loop's invariant, whichever rows make the tree: the climb from a to x hangs; the
-- second's: so do the nodes at the old places below i.
use Rattle.mesh.proofs.Turning.{Climbing, Turning}
use Rattle.mesh.specs.work.Hung.{HungAt}
use mathlib.Core.List.{List}
use Prim.Native.Nat.{ℕ, ◌-◌}
use Rattle.mesh.proofs.hang.turn.Given as goal

abbrev pub invariant-loop-x : goal.invariant-loop-x
invariant-loop-x l =
    (u v : ℕ → ℕ) (k : ℕ) (place0 : List ℕ) → HungAt u v k l.n 0 l.old.par l.old.order place0
    → Climbing u v k l.n l.a place0 l.m l.x l.tree.par l.tree.order l.tree.place

abbrev pub decreases-loop-x : goal.decreases-loop-x
decreases-loop-x l = 256 - l.m

abbrev pub invariant-loop-i : goal.invariant-loop-i
invariant-loop-i l =
    (u v : ℕ → ℕ) (k : ℕ) (place0 : List ℕ) → HungAt u v k l.n 0 l.old.par l.old.order place0
    → Turning u v k l.n l.a l.old.order l.m l.i l.tree.par l.tree.order l.tree.place
