-- `convert::convert` meets its contract: a refused acceptance is handed on, and an accepted net goes on to 13.
use Rattle.std.proofs.lemmas.Result.{err_from_is_err_and}
use Rattle.tree.proofs.Begins.{admitted, refused_on, passed_on}
use Rattle.convert.specs.Convert.{conversion_refusal}
use Rattle.convert.proofs.convert.Goals as goal

pub convert_net-requires : goal.convert_net-requires
convert_net-requires c = (admitted c.args.s.now _ _ c.in_ok-net.ensures).net.some

pub returns-in_err-net : goal.returns-in_err-net
returns-in_err-net c =
    let p = err_from_is_err_and c.from_residual.result c.from_residual.ensures.1 in
    rw (p.1, p.2) (refused_on conversion_refusal c.args.s.now _ c.in_err-net.ensures)

pub returns : goal.returns
returns c =
    let p = c.in_ok-net.ensures in
    passed_on conversion_refusal c.args.s.now _ _ p (rw (admitted c.args.s.now _ _ p).nodes at c.convert_net.ensures)
