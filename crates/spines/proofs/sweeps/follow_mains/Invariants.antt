-- `follow_mains` meets its contract. The nodes at the places below i have their heads. The node at place i and its
-- parent have a place in each array (`node_in`, `parent_in`), as the walk reaches no other.
use Prim.Native.Nat.{◌<◌}
use Rattle.reach.specs.work.Grown.{Ordered}
use Rattle.spines.specs.work.Sweeps.{MainsAll}
use Rattle.spines.proofs.HeadSweep.{Heads}
use Rattle.spines.proofs.sweeps.follow_mains.Given as goal

abbrev pub invariant-loop-i : goal.invariant-loop-i
invariant-loop-i l =
    Heads l.n l.parent l.order l.i l.head × Ordered l.n l.parent l.order × MainsAll l.n l.parent l.main × (0 < l.i)
