-- `first_repeat` meets its contract: of the rows before r those with cells before `from` repeat no pair (Repeating).
use Rattle.mesh.proofs.Repeating.{Repeating}
use Rattle.net.specs.Net.{first_end, second_end}
use Rattle.mesh.proofs.repeats.first_repeat.Given as goal

abbrev pub invariant-loop-from : goal.invariant-loop-from
invariant-loop-from l = Repeating (first_end l.s) (second_end l.s) l.head.rows l.head.nodes l.initial.r l.from l.r
