-- `listing::listing` is the listing in its mode, the floor being the signed number that was handed on.
use mir.Syntax.{w64}
use mir.ValLaws.{to_z-of_z}
use Rattle.listing.proofs.listing.Goals as goal

pub returns : goal.returns
returns c =
    let args = c.args in
    let fits = c.ranges in
    rw (to_z-of_z w64 args.floor fits.floor) at c.listing_in_mode.ensures
