-- `paths::sweep` goes over the order. The invariant: the nodes at the places below i have their values. The node at
-- place i and its parent have a place in each array (`node_in`, `parent_in`), as the walk reaches no other; the parent
-- stands before its node, so it has its value, and the node's is one step from it (`steps`).
use Prim.Native.Nat.{◌<◌}
use Rattle.paths.specs.work.Sweeps.{Sweepable, Sweeping}
use Rattle.paths.proofs.Swept.sweep.Given as goal

abbrev pub invariant-loop-i : goal.invariant-loop-i
invariant-loop-i l =
    Sweeping l.self.n l.a l.fn.top.length l.fn.top.weight l.self.parent.now l.self.order.now l.self.bl.now
    l.self.bw.now l.above l.i l.len l.wt
    × Sweepable l.self.n l.a l.fn.top.length l.fn.top.weight l.self.parent.now l.self.order.now l.self.bl.now
    l.self.bw.now l.above × (0 < l.i)
