-- `row_size` reads a row and counts the digits of its three numbers (`row_sized`, proofs/Rows).
use mathlib.Core.Path.{refl}
use native.Mathlib.Omega.{arith}
use Rattle.written.proofs.Rows.{row_sized}
use Rattle.written.proofs.size.row_size.Goals as goal

pub returns : goal.returns
returns c =
    let two2-ensures = c.two-2.ensures in
    let digits-of-ensures = c.digits_of-from.ensures in
    let two-ensures = c.two.ensures in
    let args = c.args in (
      row_sized args.t.table.now args.r args.t.place two-ensures.0 two2-ensures.0 c.four.ensures.0
          _ digits-of-ensures.0 c.digits_of-to.ensures.0 c.number_size-number.ensures.0 refl,
      omega arith,
    )
