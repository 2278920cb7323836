-- `put_row` stores the five numbers of a row one after the other, which is the row.
use Rattle.writer.proofs.Stored.{row_stored}
use Rattle.writer.proofs.put_row.Goals as goal

pub returns : goal.returns
returns c =
    let args = c.args in
    rw (
      c.put_bytes-5.ensures,
      c.put_bytes-4.ensures,
      c.put_bytes-3.ensures,
      c.put_bytes-2.ensures,
      c.put_bytes.ensures,
      c.from.ensures,
      c.from-2.ensures,
      c.from-3.ensures,
      c.from-4.ensures,
      c.from-5.ensures,
    ) (row_stored _ args.a args.b args.wire args.kind args.count c.requires)
