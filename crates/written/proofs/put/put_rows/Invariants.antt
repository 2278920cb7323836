-- `put_rows` puts row after row (proofs/Rows).
use Rattle.written.proofs.Rows.{Storing}
use Rattle.written.proofs.put.put_rows.Given as goal

abbrev pub invariant-loop-r : goal.invariant-loop-r
invariant-loop-r l = Storing l.initial.out l.at l.t.table.now l.rows l.t.top l.t.place l.out l.p l.r
