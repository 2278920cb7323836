-- `changes::claim` meets its contract: a refused acceptance is handed on, and an accepted net goes on to 13.
use Rattle.std.proofs.lemmas.Result.{err_from_is_err_and}
use Rattle.tree.proofs.Begins.{admitted, refused_on, passed_on}
use Rattle.changes.specs.Change.{change_refusal}
use Rattle.changes.proofs.claim.Goals as goal

pub claim_pair-requires : goal.claim_pair-requires
claim_pair-requires c = (admitted c.args.s.now _ _ c.in_ok-net.ensures).net

pub returns-in_err-net : goal.returns-in_err-net
returns-in_err-net c =
    let p = err_from_is_err_and c.from_residual.result c.from_residual.ensures.1 in
    rw (p.1, p.2) (refused_on (change_refusal c.args.marks.now) c.args.s.now _ c.in_err-net.ensures)

pub returns : goal.returns
returns c =
    let p = c.in_ok-net.ensures in
    let A = admitted c.args.s.now _ _ p in
    passed_on (change_refusal c.args.marks.now) c.args.s.now _ _ p (rw (A.nodes, A.bound) at c.claim_pair.ensures)
