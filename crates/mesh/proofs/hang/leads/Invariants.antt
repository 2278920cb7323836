-- `leads` meets its contract. The loop's invariant: of every row below r both ends hang in the tree, or none.
use Rattle.mesh.specs.work.Hung.{Closed}
use Rattle.net.specs.Net.{first_end, second_end}
use Rattle.mesh.proofs.hang.leads.Given as goal

abbrev pub invariant-loop-r : goal.invariant-loop-r
invariant-loop-r l =
    Closed (first_end l.s) (second_end l.s) l.r l.place
