-- `put_row` stores the four numbers of a row one after the other.
use Rattle.arcs.proofs.RowBytes.{row_sets}
use Rattle.arcs.specs.work.Lay.{arc_fields}
use Rattle.arcs.proofs.lay.put_row.Goals as goal

pub returns : goal.returns
returns c =
    let put-bytes2-ensures = c.put_bytes-2.ensures in
    let put-bytes-ensures = c.put_bytes.ensures in
    let args = c.args in
    rw (c.put_bytes-4.ensures, c.put_bytes-3.ensures, put-bytes2-ensures, put-bytes-ensures)
    (row_sets _ _ (arc_fields args.arc args.other))
