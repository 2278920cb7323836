-- `listing::scan::firsts` takes the first nodes in turn. The invariant: the page so far has all that follows the start
-- with a first node below u.
use Rattle.paths.specs.work.Ground.{Ground}
use Rattle.paths.specs.work.Paths.{ArraysLent}
use Rattle.limits.specs.work.Fits.{Fits}
use Rattle.pages.proofs.Firsts.{Scanning}
use Rattle.listing.proofs.Scanning.{Taken}
use Rattle.listing.proofs.scan.firsts.Given as goal

abbrev pub invariant-loop-u : goal.invariant-loop-u
invariant-loop-u l =
    Scanning (Ground l.swept.n l.swept.parent.now l.swept.order.now l.swept.place.now l.swept.bl.now l.swept.bw.now)
    (Taken l.swept.n l.swept.parent.now l.swept.order.now l.swept.place.now l.swept.bl.now l.swept.bw.now
    (Fits l.limit) l.floor) l.low
    l.high l.initial.rows l.room l.u l.k.given l.k.left l.rows
    × ArraysLent l.above l.len l.wt
