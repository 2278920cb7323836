-- `vet::vet` begins with acceptance: a refusal is handed on, and an accepted net goes on.
use mir.Syntax.{w64}
use mir.ValLaws.{to_z-of_z}
use Rattle.std.proofs.lemmas.Result.{err_from_is_err_and}
use Rattle.tree.proofs.Begins.{admitted, refused_on, passed_on}
use Rattle.vet.specs.Vet.{vet_refusal}
use Rattle.vet.proofs.vet.Goals as goal

pub go_on-requires : goal.go_on-requires
go_on-requires c =
    let a = admitted c.args.s.now _ _ c.in_ok-net.ensures in
    record { net = a.net; bound_value = a.bound }

pub returns-in_err-net : goal.returns-in_err-net
returns-in_err-net c =
    let p = err_from_is_err_and c.from_residual.result c.from_residual.ensures.1 in
    rw (p.1, p.2) (refused_on vet_refusal c.args.s.now _ c.in_err-net.ensures)

pub returns : goal.returns
returns c =
    let p = c.in_ok-net.ensures in
    let e = to_z-of_z w64 c.args.floor c.ranges.floor in
    passed_on vet_refusal c.args.s.now _ _ p (rw (e, (admitted c.args.s.now _ _ p).nodes) at c.go_on.ensures)
