-- `refuse`: the one line comes next, and nothing follows it.
use Rattle.reporting.proofs.Coming.{put_shown}
use Rattle.reporting.proofs.begun.refuse.Goals as goal

pub returns : goal.returns
returns c =
    (put_shown c.last.ensures c.requires.1 (rw c.from.ensures at c.refused-n.ensures.0), c.last.ensures.1)
