-- `window::scan::firsts` takes the first nodes in turn. The invariant: the page so far has all that follows the start
-- with a first node below u. Where a first node is not hit, none of its pairs is taken, and the page stays.
use Rattle.limits.specs.work.Fits.{Fits}
use Rattle.pages.proofs.Firsts.{Scanning}
use Rattle.window.specs.work.Scan.{ListStand, ListTaken, FourLent}
use Rattle.window.proofs.scan.firsts.Given as goal

abbrev pub invariant-loop-u : goal.invariant-loop-u
invariant-loop-u l =
    Scanning (ListStand l.swept.n l.swept.parent.now l.swept.order.now l.swept.place.now l.ones l.swept.bl.now
    l.swept.bw.now l.sums) (ListTaken (Fits l.limit)) l.low l.high
    l.initial.rows l.room l.u l.k.given
    l.k.left l.rows
    × FourLent l.above l.key l.len l.wt
