-- `table::examine` meets its contract: a refused opening is a refused examination, and an opened table is examined row
-- by row.
use Rattle.table.proofs.Accepted.{opened, refused_stays, opened_goes}
use Rattle.std.proofs.lemmas.Result.{err_from_is_err_and}
use native.Mathlib.Omega.{arith}
use Rattle.table.proofs.examine.Goals as goal

pub rows-requires : goal.rows-requires
rows-requires c = let h = opened c.args.s.now _ _ c.in_ok-table.ensures in omega arith

pub returns-in_err-table : goal.returns-in_err-table
returns-in_err-table c =
    let p = err_from_is_err_and c.from_residual.result c.from_residual.ensures.1 in
    rw (p.1, p.2) (refused_stays c.args.s.now _ c.in_err-table.ensures)

pub returns : goal.returns
returns c = opened_goes c.args.s.now _ _ _ c.in_ok-table.ensures c.rows.ensures
