-- `listing::scan::page` walks the net, reads the branches and scans: the walk and the branches are the ground of the
-- accepted net, and what the scan gives of any ground it gives of this one.
use mir.Syntax.{w64}
use mir.ValLaws.{to_z-of_z}
use Rattle.ground.proofs.Branching.{ground}
use Rattle.listing.proofs.Scanning.{scanned}
use Rattle.listing.proofs.scan.page.Goals as goal

pub firsts-requires : goal.firsts-requires
firsts-requires c =
    let grounded-ensures = c.grounded.ensures in
    (rw c.from.ensures (ground grounded-ensures), grounded-ensures.walked.long.1)

pub returns : goal.returns
returns c =
    let e = to_z-of_z w64 c.args.floor c.ranges.floor in
    scanned c.from.ensures c.grounded.ensures (rw (e, c.from-2.ensures, c.from-3.ensures) at c.firsts.ensures)
