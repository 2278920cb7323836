-- `repeat_in` meets its contract: of the rows before r with cells among these none repeats a pair, and the cells are
-- noted as seen (Repeating).
use Rattle.mesh.proofs.Repeating.{Passing}
use Rattle.net.specs.Net.{first_end, second_end}
use Rattle.mesh.proofs.repeats.repeat_in.Given as goal

abbrev pub invariant-loop-r : goal.invariant-loop-r
invariant-loop-r l = Passing (first_end l.s) (second_end l.s) l.from l.limit l.r l.seen
