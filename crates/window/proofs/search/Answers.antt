-- `window::search` meets its contract: the walk and the branches are the ground of the accepted net, also where each
-- branch is 1 long, and what the scan finds of any ground it finds of this one.
use native.Mathlib.Omega.{arith}
use Rattle.arrays.proofs.Fills.{filled_by}
use Rattle.paths.proofs.Fresh.{fresh}
use Rattle.window.proofs.Counting.{counted}
use Rattle.window.proofs.FromBest.{window_best}
use Rattle.window.proofs.search.Goals as goal

pub best-requires : goal.best-requires
best-requires c =
    let from-ensures = c.from-n.ensures in
    let one = filled_by {m = 4096} {v = 1} c.grounded.array_long c.fill.ensures.after in
    let grounded-ensures = c.grounded.ensures in (
      rw from-ensures (counted grounded-ensures one),
      record { flags = grounded-ensures.walked.long.1; lengths = fresh.lengths; weights = fresh.weights },
    )

pub returns : goal.returns
returns c =
    let counts = c.counts-counts.ensures in
    let sums = c.sums-sums.ensures in
    window_best (omega arith) c.from-n.ensures c.grounded.ensures (filled_by c.grounded.array_long
    c.fill.ensures.after) counts.0 counts.1 sums.0 sums.1
    c.best.ensures.0
