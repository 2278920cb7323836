-- `heaviest::search` meets its contract: the walk and the branches are the ground of the accepted net, and what the
-- lists give of any ground they give of this one.
use Rattle.ground.proofs.Branching.{ground}
use Rattle.heaviest.proofs.search.Goals as goal

pub heaviest_pair-requires : goal.heaviest_pair-requires
heaviest_pair-requires c =
    let from-ensures = c.from.ensures in
    let grounded-ensures = c.grounded.ensures in
    record { ground = rw from-ensures (ground grounded-ensures); most_bound = c.requires.most_bound }

pub returns : goal.returns
returns c =
    let grounded-ensures = c.grounded.ensures in
    let e = c.from.ensures in
    rw e at (c.heaviest_pair.ensures (rw e (ground grounded-ensures)))
