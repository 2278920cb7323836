-- `pair` meets its contract: a refusal of 1 to 11 is handed on, and an accepted net goes on to 13, 15 and the path.
use Rattle.std.proofs.lemmas.Result.{err_from_is_err_and}
use Rattle.tree.proofs.Begins.{admitted, refused_on, passed_on}
use Rattle.pair.specs.Pair.{pair_refusal}
use Rattle.pair.proofs.pair.Goals as goal

pub measure-requires : goal.measure-requires
measure-requires c = (admitted c.args.s.now _ _ c.in_ok-net.ensures).net

pub returns-in_err-net : goal.returns-in_err-net
returns-in_err-net c =
    let p = err_from_is_err_and c.from_residual.result c.from_residual.ensures.1 in
    rw (p.1, p.2) (refused_on pair_refusal c.args.s.now _ c.in_err-net.ensures)

pub returns : goal.returns
returns c =
    let p = c.in_ok-net.ensures in
    passed_on pair_refusal c.args.s.now _ _ p (rw (admitted c.args.s.now _ _ p).nodes at c.measure.ensures)
