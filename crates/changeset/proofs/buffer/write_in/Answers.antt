-- `write_in`: 1 to 6 by `open_table`, 33, then the table with its entries and 34.
use Rattle.std.proofs.lemmas.Result.{err_from_is_err_and}
use Rattle.table.proofs.Accepted.{refused_header}
use Rattle.changeset.specs.work.Buffer.{writing_refusal}
use Rattle.changeset.proofs.Withs.{opened_lent, opened_33, opened_34, opened_all}
use Rattle.changeset.proofs.buffer.write_in.Goals as goal

pub returns-in_err-opened : goal.returns-in_err-opened
returns-in_err-opened c =
    let p = err_from_is_err_and c.from_residual.result c.from_residual.ensures.1 in
    rw (p.1, p.2) (refused_header (λ k r. writing_refusal k r 0) c.args.table.now _ c.in_err-opened.ensures)

pub returns-then-not-formed : goal.returns-then-not-formed
returns-then-not-formed c =
    let args = c.args in
    opened_33 args.table.now args.changes.now _ _ c.in_ok-opened.ensures _
    (c.formed.ensures.fails c.if-not-formed.true)

pub put_rows-requires : goal.put_rows-requires
put_rows-requires c =
    let args = c.args in
    rw c.from.ensures (opened_lent args.table.now args.changes.now _ _ c.in_ok-opened.ensures _ c.requires)

pub returns-then-not-put_rows : goal.returns-then-not-put_rows
returns-then-not-put_rows c =
    let args = c.args in
    opened_34 args.table.now args.changes.now _ _ c.in_ok-opened.ensures _
    (c.formed.ensures.holds c.if-not-formed.false)
    (rw (c.if-not-put_rows.true, c.from.ensures) at c.put_rows.ensures)

pub returns : goal.returns
returns c =
    let args = c.args in
    opened_all args.table.now args.changes.now _ _ c.in_ok-opened.ensures _
    (c.formed.ensures.holds c.if-not-formed.false)
    (rw (c.if-not-put_rows.false, c.from.ensures) at c.put_rows.ensures)
