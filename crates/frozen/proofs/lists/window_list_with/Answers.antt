-- `window_list_with`: the changed table is written out, and the window list asked of it.
use mir.Syntax.{w64}
use mir.ValLaws.{to_z-of_z}
use Rattle.std.proofs.lemmas.Result.{err_from_is_err_and}
use Rattle.paging.specs.Paging.{listing_refusal}
use Rattle.frozen.proofs.Changing.{handed_on, asked_of}
use Rattle.frozen.proofs.lists.window_list_with.Goals as goal

pub returns-in_err-changed : goal.returns-in_err-changed
returns-in_err-changed c =
    let p = err_from_is_err_and c.from_residual.result c.from_residual.ensures.1 in
    rw (p.1, p.2) (handed_on _ _ (listing_refusal c.args.rows.now) _ c.in_err-changed.ensures)

pub returns : goal.returns
returns c =
    asked_of _ _ (listing_refusal c.args.rows.now) c.in_ok-changed.ensures
    (rw (to_z-of_z w64 c.args.floor c.ranges.floor, to_z-of_z w64 c.args.ceiling c.ranges.ceiling) at
    c.window_list.ensures)
