-- `write`: 1 to 3 as `version_one` says, then a refused acceptance is handed on, and an accepted table goes on to 29.
use Rattle.std.proofs.lemmas.Result.{err_from_is_err_and}
use Rattle.tree.proofs.Begins.{admitted, refused_on, passed_on}
use Rattle.dimacs.specs.Write.{write_refusal}
use Rattle.dimacs.proofs.Texting.{version_refused, version_on}
use Rattle.dimacs.proofs.writing.write.Goals as goal

pub returns-in_err-version_one : goal.returns-in_err-version_one
returns-in_err-version_one c =
    let args = c.args in
    let p = err_from_is_err_and c.from_residual.result c.from_residual.ensures.1 in
    rw (p.1, p.2)
    (version_refused (write_refusal args.lengths.now args.weights.now) args.s.now c.in_err-version_one.ensures)

pub write_net-requires : goal.write_net-requires
write_net-requires c = (admitted c.args.s.now _ _ c.in_ok-net.ensures).net

pub returns-in_err-net : goal.returns-in_err-net
returns-in_err-net c =
    let refuse = write_refusal c.args.lengths.now c.args.weights.now in
    let p = err_from_is_err_and c.from_residual-in_err-net.result c.from_residual-in_err-net.ensures.1 in
    rw (p.1, p.2)
    (version_on refuse c.args.s.now c.in_ok-version_one.ensures
    (refused_on refuse c.args.s.now _ c.in_err-net.ensures))

pub returns : goal.returns
returns c =
    let refuse = write_refusal c.args.lengths.now c.args.weights.now in
    version_on refuse c.args.s.now c.in_ok-version_one.ensures
    (passed_on refuse c.args.s.now _ _ c.in_ok-net.ensures
    (rw (admitted c.args.s.now _ _ c.in_ok-net.ensures).nodes at c.write_net.ensures))
