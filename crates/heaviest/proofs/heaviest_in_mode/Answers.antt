-- `heaviest::heaviest_in_mode` begins with acceptance: a refusal is handed on, and an accepted net goes on, its bound
-- the limit.
use native.Mathlib.Omega.{arith}
use Rattle.std.proofs.lemmas.Result.{err_from_is_err_and}
use Rattle.tree.proofs.Begins.{admitted, refused_on, passed_on}
use Rattle.heaviest.specs.Heaviest.{heaviest_refusal}
use Rattle.heaviest.proofs.heaviest_in_mode.Goals as goal

pub choose-requires : goal.choose-requires
choose-requires c = record { net = (admitted c.args.s.now _ _ c.in_ok-net.ensures).net; most_bound = omega arith }

pub returns-in_err-net : goal.returns-in_err-net
returns-in_err-net c =
    let p = err_from_is_err_and c.from_residual.result c.from_residual.ensures.1 in
    rw (p.1, p.2) (refused_on heaviest_refusal c.args.s.now _ c.in_err-net.ensures)

pub returns : goal.returns
returns c =
    let p = c.in_ok-net.ensures in
    let a = admitted c.args.s.now _ _ p in
    passed_on heaviest_refusal c.args.s.now _ _ p (rw (c.from.ensures, a.nodes, a.bound) at c.choose.ensures)
