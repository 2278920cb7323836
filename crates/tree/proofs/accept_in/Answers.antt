-- `accept_in` meets its contract: a table's own refusal is handed on, and an examined table goes on to 11.
use Rattle.std.proofs.lemmas.Result.{err_from_is_err_and}
use Rattle.tree.proofs.Begins.{fitting, refused_stays, examined_goes}
use Rattle.tree.proofs.accept_in.Goals as goal

pub rings-requires : goal.rings-requires
rings-requires c = fitting c.args.s.now _ _ c.in_ok-net.ensures

pub returns-in_err-net : goal.returns-in_err-net
returns-in_err-net c =
    let p = err_from_is_err_and c.from_residual.result c.from_residual.ensures.1 in
    rw (p.1, p.2) (refused_stays c.args.s.now _ c.in_err-net.ensures)

pub returns : goal.returns
returns c = examined_goes c.args.s.now _ _ _ c.in_ok-net.ensures c.rings.ensures
