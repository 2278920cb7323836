-- `put_entries`: the table, then entry by entry. `Overlaid` says which rows the buffer holds.
use Rattle.changeset.proofs.Overlay.{Overlaid}
use Rattle.changeset.proofs.buffer.put_entries.Given as goal

abbrev pub invariant-loop-i : goal.invariant-loop-i
invariant-loop-i l = Overlaid l.table l.c l.n l.m l.low l.i l.out
