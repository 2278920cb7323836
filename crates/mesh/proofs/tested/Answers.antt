-- `tested` meets its contract: a bad row is refused by its own number; rows that are good by themselves are fit to be
-- read, and the first that repeats a pair is refused; where none does, `from_all` tells the rest (Front).
use Rattle.mesh.proofs.Front.{row_refused, rows_passed, rows_readable, repeat_refused, repeat_passed}
use Rattle.mesh.proofs.tested.Goals as goal

pub first_bad-requires : goal.first_bad-requires
first_bad-requires c = (c.requires.0, c.requires.1)

pub returns-in-Some : goal.returns-in-Some
returns-in-Some c = rw c.refusal.ensures (row_refused c.args.s.now c.in-Some.ensures)

pub first_repeat-requires : goal.first_repeat-requires
first_repeat-requires c = rows_readable c.args.s.now c.in_default.ensures c.requires.0 c.requires.3

pub returns-in-Some-first_repeat : goal.returns-in-Some-first_repeat
returns-in-Some-first_repeat c =
    rw c.refusal-in-Some-first_repeat.ensures
    (rows_passed c.args.s.now c.in_default.ensures (repeat_refused c.in-Some-first_repeat.ensures))

pub from_all-requires : goal.from_all-requires
from_all-requires c =
    let pre = c.requires in
    (rows_readable c.args.s.now c.in_default.ensures pre.0 pre.3, pre.2, c.in_default-first_repeat.ensures)

pub returns : goal.returns
returns c =
    rows_passed c.args.s.now c.in_default.ensures
    (repeat_passed c.in_default-first_repeat.ensures c.from_all.ensures)
