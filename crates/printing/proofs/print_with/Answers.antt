-- `print_with`: the changed table is written out, and its report handed over; where `write_in` refuses, the line that
-- was put is the whole report with the set.
use Rattle.std.proofs.Common.{arith}
use Rattle.std.proofs.lemmas.Result.{IfOk-weaker, on_ok_weaker, on_err_weaker}
use Rattle.changeset.proofs.Withs.{written_fits, written_long}
use Rattle.reporting.proofs.With.{line_with, whole_with}
use Rattle.printing.proofs.Gone.{printed_with, front_with}
use Rattle.printing.proofs.print_with.Goals as goal

pub hand_over_line-requires : goal.hand_over_line-requires
hand_over_line-requires g c =
    line_with _ _ _ c.in-Err.why c.in-Err.ensures (rw c.from.ensures at c.refused-n.ensures.0)

pub returns-clause-counted : goal.returns-clause-counted
returns-clause-counted g c =
    IfOk-weaker _ _ _ (λ handed rest. whole_with _ _ _ c.in_default.ensures rest) c.print.ensures.counted

pub returns-clause-written : goal.returns-clause-written
returns-clause-written g c = on_ok_weaker _ (printed_with _ _ _ c.in_default.ensures _ _) c.print.ensures.written

pub returns-clause-err : goal.returns-clause-err
returns-clause-err g c = on_err_weaker _ (front_with _ _ _ c.in_default.ensures _ _) c.print.ensures.err

pub slice_bounds-buffer-end : goal.slice_bounds-buffer-end
slice_bounds-buffer-end g c = omega (arith, written_fits c.args.table.now c.args.changes.now _ c.in_default.ensures)

pub slice_bounds-print-end : goal.slice_bounds-print-end
slice_bounds-print-end g c = written_long c.args.table.now c.args.changes.now _ c.in_default.ensures
