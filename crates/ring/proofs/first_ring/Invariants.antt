-- `first_ring` meets its contract: the rows before r have been seen, and closed no ring.
use Rattle.net.specs.Net.{first_end, second_end}
use Rattle.net.specs.work.Rows.{Readable}
use Rattle.ring.proofs.Union.{Seen}
use Rattle.ring.proofs.first_ring.Given as goal

abbrev pub invariant-loop-r : goal.invariant-loop-r
invariant-loop-r l = Seen (first_end l.s) (second_end l.s) l.rows l.r l.up l.rank × Readable l.s l.rows
