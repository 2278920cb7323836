-- `walk` meets its contract: from the root of an accepted net all its nodes are reached.
use native.Mathlib.Omega.{arith}
use Rattle.tree.proofs.Begins.{fitting_readable}
use Rattle.reach.proofs.NetWalk.{net_fitting, walk_all}
use Rattle.tree.proofs.walk.Goals as goal

pub walk_from-requires : goal.walk_from-requires
walk_from-requires c =
    let from-ensures = c.from.ensures in
    let pre = c.requires in
    (omega arith, rw from-ensures (fitting_readable (net_fitting pre)))

pub returns : goal.returns
returns c =
    let from-ensures = c.from.ensures in
    let pre = c.requires in
    let w = rw from-ensures at c.walk_from.ensures in
    rw (walk_all pre w) at w
