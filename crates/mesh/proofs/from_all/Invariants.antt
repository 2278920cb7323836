-- `from_all` meets its contract. The loop's invariant: the roots below a are done.
use Rattle.mesh.proofs.Roots.{Rooting}
use Rattle.mesh.specs.work.Hung.{HungAt}
use Rattle.net.specs.Net.{first_end, second_end}
use Rattle.mesh.proofs.from_all.Given as goal

abbrev pub invariant-loop-a : goal.invariant-loop-a
invariant-loop-a l =
    Rooting (first_end l.s) (second_end l.s) l.head.rows l.head.nodes l.a l.branches l.low l.high
    × HungAt (first_end l.s) (second_end l.s) l.head.rows l.head.nodes 0 l.tree.par l.tree.order l.tree.place
