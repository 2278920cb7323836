-- `heaviest_exact_with`: the changed table is written out, and heaviest exact asked of it.
use Rattle.std.proofs.lemmas.Result.{err_from_is_err_and}
use Rattle.heaviest.specs.Heaviest.{heaviest_refusal}
use Rattle.frozen.proofs.Changing.{handed_on, asked_of}
use Rattle.frozen.proofs.nets.heaviest_exact_with.Goals as goal

pub returns-in_err-changed : goal.returns-in_err-changed
returns-in_err-changed c =
    let p = err_from_is_err_and c.from_residual.result c.from_residual.ensures.1 in
    rw (p.1, p.2) (handed_on _ _ heaviest_refusal _ c.in_err-changed.ensures)

pub returns : goal.returns
returns c = asked_of _ _ heaviest_refusal c.in_ok-changed.ensures c.heaviest_exact.ensures
