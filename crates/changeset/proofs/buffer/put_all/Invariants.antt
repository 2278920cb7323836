-- `put_all`: the header, then entry by entry, the last one by itself. `AllPut` says which rows the buffer holds,
-- `EachOwn` whether each entry passed is for the row of its own number.
use Rattle.changeset.proofs.AllRows.{EachOwn, AllPut}
use Rattle.changeset.proofs.buffer.put_all.Given as goal

abbrev pub invariant-loop-i : goal.invariant-loop-i
invariant-loop-i l = AllPut l.table l.c l.n l.i l.out × EachOwn l.c l.i l.off
