-- `spread` meets its contract. The loop's invariant: m nodes hang in the tree.
use Rattle.mesh.proofs.Growing.{Spreading}
use Rattle.net.specs.Net.{first_end, second_end}
use Prim.Native.Nat.{◌-◌}
use Rattle.mesh.proofs.hang.spread.Given as goal

abbrev pub invariant-loop-r : goal.invariant-loop-r
invariant-loop-r l =
    Spreading (first_end l.s) (second_end l.s) l.head.rows l.head.nodes l.m l.tree.par l.tree.order l.tree.place

abbrev pub decreases-loop-r : goal.decreases-loop-r
decreases-loop-r l = 256 - l.m
