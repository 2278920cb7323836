-- `rows_size` sums the sizes of the rows (proofs/Rows).
use Rattle.written.proofs.Rows.{Summing}
use Rattle.written.proofs.size.rows_size.Given as goal

abbrev pub invariant-loop-r : goal.invariant-loop-r
invariant-loop-r l = Summing l.t.table.now l.rows l.t.top l.t.place l.k l.r
