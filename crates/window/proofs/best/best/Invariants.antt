-- `window::best::best` takes the first nodes in turn. The invariant: the best so far is the best of the pairs whose
-- first node is `first` or a later one and below u, and of those first nodes each that has a pair of its count is hit.
use mathlib.Core.Path.{◌≡◌}
use lib.ListN.{length}
use Rattle.paths.specs.work.Paths.{ArraysLent}
use Rattle.window.specs.work.Best.{Stand}
use Rattle.window.proofs.Scanning.{Searched}
use Rattle.window.proofs.best.best.Given as goal

abbrev pub invariant-loop-u : goal.invariant-loop-u
invariant-loop-u l =
    ((g : Stand l.ones.n l.ones.parent.now l.ones.order.now l.ones.place.now l.ones.bl.now l.ones.bw.now l.sums)
    → Searched l.counts g l.first l.u l.hits l.b)
    × ArraysLent l.above l.key l.wt
    × (length l.hits ≡ 4096)
