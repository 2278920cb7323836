-- `walk_from` meets its contract: the walk's promise holds of some places, and the order fixes them.
use Rattle.reach.proofs.Placing.{walked_once, walked_placed}
use Rattle.reach.proofs.walk_from.Goals as goal

pub places-requires : goal.places-requires
places-requires c = walked_once c.reach-n.ensures.holds

pub returns : goal.returns
returns c = walked_placed c.reach-n.ensures.holds c.places.ensures
