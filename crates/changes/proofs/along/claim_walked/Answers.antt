-- `changes::along::claim_walked` meets its contract: the walk of the accepted net is what `claim_path` asks for.
use Rattle.changes.proofs.along.claim_walked.Goals as goal

pub walk-requires : goal.walk-requires
walk-requires c = c.requires.net

pub claim_path-requires : goal.claim_path-requires
claim_path-requires c =
    let walk-ensures = c.walk.ensures in
    let pre = c.requires in
    (pre, record { order = _; walked = walk-ensures })
