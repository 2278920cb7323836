-- `ask`: a call that is ready is not refused, by demand 3's `answered`; so what it gives is a page.
use mir.Syntax.{w64}
use mir.ValLaws.{to_z-of_z}
use Rattle.reporting.proofs.Paging.{ready_taken, ready_asked}
use Rattle.reporting.proofs.listed.ask.Goals as goal

pub unwrap-requires : goal.unwrap-requires
unwrap-requires c = ready_taken c.requires _ c.listing.ensures

pub returns : goal.returns
returns c =
    rw (to_z-of_z w64 c.args.floor c.ranges.floor) at
    (ready_asked c.requires (rw c.unwrap.ensures at c.listing.ensures))
