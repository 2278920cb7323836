-- `pages::put_row` stores the four parts of a row one after the other, which is the store of the row.
use Rattle.pages.specs.Listing.{entry}
use Rattle.pages.specs.work.Lowered.{lower}
use Rattle.pages.proofs.Rows.{row_sets}
use Rattle.pages.proofs.put_row.Goals as goal

pub returns : goal.returns
returns c =
    let p = c.args.p.now in
    rw (c.put_bytes-4.ensures, c.bits.ensures, c.put_bytes-3.ensures, c.put_bytes-2.ensures, c.put_bytes.ensures)
    (row_sets _ _ (entry p.low p.high p.length (lower p.weight)))
