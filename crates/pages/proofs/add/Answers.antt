-- `pages::add` writes the row where there is room, and counts it as left over where there is none.
use Rattle.pages.proofs.Filling.{added_row, added_left}
use Rattle.pages.proofs.add.Goals as goal

pub returns-then-c-room : goal.returns-then-c-room
returns-then-c-room c =
    let if1-taken = c.if-c-room.true in
    let pre = c.requires in
    added_row pre.0 pre.1 _ _ if1-taken c.put_row.ensures

pub returns : goal.returns
returns c =
    let pre = c.requires in
    added_left pre.0 pre.1 _ c.if-c-room.false
