-- `places` meets its contract: the first i of the order have their places. The node at i is below 4,096 (`node_in`),
-- since the order has such nodes alone.
use Prim.Native.Nat.{◌≤◌}
use Rattle.reach.specs.work.Placing.{Once, Places}
use Rattle.reach.proofs.places.Given as goal

abbrev pub invariant-loop-i : goal.invariant-loop-i
invariant-loop-i l = Places l.i l.order l.place × Once l.n l.order × (l.i ≤ l.n)
