-- `accept`: a refusal is handed on, and the rows of an accepted table are counted.
use Rattle.std.proofs.lemmas.Result.{err_from_is_err_and}
use Rattle.tree.proofs.Begins.{refused_on, passed_on}
use Rattle.accept.specs.Accept.{accept_refusal}
use Rattle.accept.proofs.Counting.{rows_there, net_given}
use Rattle.accept.proofs.accept.Goals as goal

pub filler_rows-filler-requires : goal.filler_rows-filler-requires
filler_rows-filler-requires c = rows_there c.args.s.now c.in_ok-net.ensures

pub returns-in_err-net : goal.returns-in_err-net
returns-in_err-net c =
    let p = err_from_is_err_and c.from_residual.result c.from_residual.ensures.1 in
    rw (p.1, p.2) (refused_on accept_refusal c.args.s.now _ c.in_err-net.ensures)

pub returns : goal.returns
returns c =
    let p = c.in_ok-net.ensures in
    passed_on accept_refusal c.args.s.now _ _ p (net_given c.args.s.now p c.filler_rows-filler.ensures)
