-- `look_whole`: marks cleared, the look, and whether all is marked.
use Rattle.arrays.proofs.Fills.{filled}
use Rattle.arcs.proofs.Looks.{whole_fault, whole_told}
use Rattle.arcs.proofs.look.look_whole.Goals as goal

pub returns-then-look : goal.returns-then-look
returns-then-look c =
    whole_told (filled _ _) c.requires.2.buckets.few c.look.ensures.1 c.if-look.true c.all_seen.ensures

pub returns-else-look : goal.returns-else-look
returns-else-look c = rw c.if-look.false (whole_fault (filled _ _) c.requires.2.buckets.few c.look.ensures.1
    c.if-look.false)
