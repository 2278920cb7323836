-- `give`: a refusal of 1 to 11 is handed on, and nothing is written; a table that is accepted is copied to the front of
-- the lent bytes.
use Rattle.std.proofs.lemmas.Result.{err_from_is_err_and}
use Rattle.tree.proofs.Begins.{refused_on, passed_on}
use Rattle.dimacs.specs.Read.{read_refusal}
use Rattle.dimacs.proofs.Copied.{copied_given}
use Rattle.dimacs.proofs.reading.give.Goals as goal

pub returns-in_err-accept : goal.returns-in_err-accept
returns-in_err-accept c =
    let p = err_from_is_err_and c.from_residual.result c.from_residual.ensures.1 in
    rw (p.1, p.2) (refused_on (read_refusal c.args.table.now) c.args.made.now _ c.in_err-accept.ensures)

pub returns : goal.returns
returns c =
    passed_on (read_refusal c.args.table.now) c.args.made.now _ _ c.in_ok-accept.ensures (copied_given
    c.put_word.ensures)
