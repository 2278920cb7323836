-- `grounded` walks the net and reads its branches: each node's row is then a row of the net.
use Rattle.ground.proofs.Branching.{readable}
use Rattle.ground.proofs.grounded.Goals as goal

pub branches-requires : goal.branches-requires
branches-requires c =
    let from-ensures = c.from.ensures in
    let walk-ensures = c.walk.ensures in
    let pre = c.requires in
    rw from-ensures (readable pre walk-ensures)

pub returns : goal.returns
returns c =
    let from-ensures = c.from.ensures in
    let walk-ensures = c.walk.ensures in
    let pre = c.requires in
    record { net = pre; walked = walk-ensures; branches = rw from-ensures at c.branches.ensures }
