-- `window::window_list` begins with acceptance: a refusal is handed on, and of an accepted net a page is given.
use mir.Syntax.{w64}
use mir.ValLaws.{to_z-of_z}
use Rattle.std.proofs.lemmas.Result.{err_from_is_err_and}
use Rattle.tree.proofs.Begins.{admitted, refused_on, passed_on}
use Rattle.paging.specs.Paging.{listing_refusal}
use Rattle.window.proofs.window_list.Goals as goal

pub list-requires : goal.list-requires
list-requires c = (admitted c.args.s.now _ _ c.in_ok-net.ensures).net

pub returns-in_err-net : goal.returns-in_err-net
returns-in_err-net c =
    let p = err_from_is_err_and c.from_residual.result c.from_residual.ensures.1 in
    rw (p.1, p.2) (refused_on (listing_refusal _) c.args.s.now _ c.in_err-net.ensures)

pub returns : goal.returns
returns c =
    let p = c.in_ok-net.ensures in
    let a = admitted c.args.s.now _ _ p in
    let e = to_z-of_z w64 c.args.floor c.ranges.floor in
    let f = to_z-of_z w64 c.args.ceiling c.ranges.ceiling in
    passed_on (listing_refusal _) c.args.s.now _ _ p (rw (e, f, a.nodes) at c.list.ensures)
