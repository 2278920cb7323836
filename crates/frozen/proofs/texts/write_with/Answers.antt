-- `write_with`: 1 to 3 as writing has them; then the changed table is written out, and writing asked of it.
use Rattle.std.proofs.lemmas.Result.{err_from_is_err_and}
use Rattle.dimacs.specs.Write.{write_refusal}
use Rattle.dimacs.proofs.Texting.{version_refused, version_on}
use Rattle.frozen.proofs.Changing.{handed_on, asked_of}
use Rattle.frozen.proofs.texts.write_with.Goals as goal

pub returns-in_err-version_one : goal.returns-in_err-version_one
returns-in_err-version_one c =
    let p = err_from_is_err_and c.from_residual.result c.from_residual.ensures.1 in
    rw (p.1, p.2)
    (version_refused (write_refusal c.args.lengths.now c.args.weights.now) c.args.table.now
    c.in_err-version_one.ensures)

pub returns-in_err-changed : goal.returns-in_err-changed
returns-in_err-changed c =
    let refuse = write_refusal c.args.lengths.now c.args.weights.now in
    let p = err_from_is_err_and c.from_residual-in_err-changed.result c.from_residual-in_err-changed.ensures.1 in
    rw (p.1, p.2)
    (version_on refuse c.args.table.now c.in_ok-version_one.ensures
    (handed_on _ _ refuse _ c.in_err-changed.ensures))

pub returns : goal.returns
returns c =
    let refuse = write_refusal c.args.lengths.now c.args.weights.now in
    version_on refuse c.args.table.now c.in_ok-version_one.ensures
    (asked_of _ _ refuse c.in_ok-changed.ensures c.write.ensures)
