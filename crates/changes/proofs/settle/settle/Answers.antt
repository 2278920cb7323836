-- `changes::settle::settle` meets its contract: a refused acceptance is handed on, and an accepted net goes on to 13.
use Rattle.std.proofs.lemmas.Result.{err_from_is_err_and}
use Rattle.tree.proofs.Begins.{admitted, refused_on, passed_on}
use Rattle.changes.specs.Change.{change_refusal}
use Rattle.changes.proofs.settle.settle.Goals as goal

pub settle_net-requires : goal.settle_net-requires
settle_net-requires c = let A = admitted c.args.s.now _ _ c.in_ok-net.ensures in (A.net.some, A.net.few)

pub returns-in_err-net : goal.returns-in_err-net
returns-in_err-net c =
    let p = err_from_is_err_and c.from_residual.result c.from_residual.ensures.1 in
    rw (p.1, p.2) (refused_on (change_refusal c.args.marks.now) c.args.s.now _ c.in_err-net.ensures)

pub returns : goal.returns
returns c =
    let p = c.in_ok-net.ensures in
    passed_on (change_refusal c.args.marks.now) c.args.s.now _ _ p
    (rw (admitted c.args.s.now _ _ p).nodes at c.settle_net.ensures)
