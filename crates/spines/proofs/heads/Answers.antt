-- `heads` meets its contract: a refused acceptance is handed on, and an accepted net goes on to 20 and the heads.
use Rattle.std.proofs.lemmas.Result.{err_from_is_err_and}
use Rattle.tree.proofs.Begins.{admitted, refused_on, passed_on}
use Rattle.spines.specs.Heads.{heads_refusal}
use Rattle.spines.proofs.heads.Goals as goal

pub list_heads-requires : goal.list_heads-requires
list_heads-requires c = (admitted c.args.s.now _ _ c.in_ok-net.ensures).net

pub returns-in_err-net : goal.returns-in_err-net
returns-in_err-net c =
    let p = err_from_is_err_and c.from_residual.result c.from_residual.ensures.1 in
    rw (p.1, p.2) (refused_on (heads_refusal c.args.list.now) c.args.s.now _ c.in_err-net.ensures)

pub returns : goal.returns
returns c =
    let p = c.in_ok-net.ensures in
    passed_on (heads_refusal c.args.list.now) c.args.s.now _ _ p (rw (admitted c.args.s.now _ _ p).nodes at
    c.list_heads.ensures)
