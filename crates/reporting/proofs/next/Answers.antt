-- `next`: where more follows it is the page's next rows, the next page, or the last line; where nothing does, the
-- report has ended.
use native.Mathlib.Omega.{arith}
use Rattle.reporting.proofs.Coming.{put_shown, none_shown}
use Rattle.reporting.proofs.Steps.{shown_fits, going_last}
use Rattle.reporting.proofs.next.Goals as goal

pub overflow_add-at : goal.overflow_add-at
overflow_add-at c = omega (arith, shown_fits c.requires.1)

pub some_rows-requires : goal.some_rows-requires
some_rows-requires c = (c.requires.0.text, omega arith, rw c.in-Some.is at c.requires.1.goes)

pub next_page-requires : goal.next_page-requires
next_page-requires c = (c.requires.0, omega arith, omega arith, rw c.in-Some.is at c.requires.1.goes)

pub total-n-requires : goal.total-n-requires
total-n-requires c = omega (arith, c.requires.0.text)

pub returns-in_default : goal.returns-in_default
returns-in_default c = (none_shown c.last.ensures (rw c.in_default.is at c.requires.1.goes), c.last.ensures.1)

pub returns : goal.returns
returns c = (
  put_shown c.last-2.ensures (going_last (rw c.in-Some.is at c.requires.1.goes) (omega arith) (omega arith))
      c.total-n.ensures.0,
  c.last-2.ensures.1,
)
