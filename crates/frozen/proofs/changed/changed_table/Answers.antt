-- `changed_table`: what `write_in` refuses is refused, and the table's own length of the buffer is the changed table.
use Rattle.std.proofs.lemmas.Result.{err_from_is_err_and}
use Rattle.frozen.proofs.Changing.{made_none, made}
use Rattle.frozen.proofs.changed.changed_table.Goals as goal

pub returns-in_err-write_in : goal.returns-in_err-write_in
returns-in_err-write_in c =
    let p = err_from_is_err_and c.from_residual.result c.from_residual.ensures.1 in
    rw (p.1, p.2) (made_none _ _ _ c.in_err-write_in.ensures)

pub returns : goal.returns
returns c = made _ _ c.in_ok-write_in.ensures
