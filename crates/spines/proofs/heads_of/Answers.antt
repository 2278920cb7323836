-- `heads_of` meets its contract: the counts are in the array of heads when the main children are found, and these are
-- all that the heads are found by.
use Rattle.spines.proofs.MainSweep.{ordered_parented}
use Rattle.spines.proofs.heads_of.Goals as goal

pub mains_of-requires : goal.mains_of-requires
mains_of-requires c =
    let pre = c.requires in
    (ordered_parented pre, c.leaves_of.ensures)

pub follow_mains-requires : goal.follow_mains-requires
follow_mains-requires c =
    let pre = c.requires in
    (pre, c.mains_of.ensures)

pub returns : goal.returns
returns c = c.follow_mains.ensures
