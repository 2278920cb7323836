-- `way_between` meets its contract: the two climbs up to where they meet make the path, so their lengths and lifted
-- weights add up to the path's, less one lift.
use native.Mathlib.Omega.{arith}
use Rattle.reach.proofs.NetWalk.{walk_climb}
use Rattle.tree.proofs.Meeting.{walk_hung}
use Rattle.pair.proofs.Shown.{way_both}
use Rattle.pair.proofs.way_between.Goals as goal

pub meet-t-requires : goal.meet-t-requires
meet-t-requires c =
    let pre = c.requires in
    (walk_hung pre.0 pre.3.walked, pre.2.first, pre.2.second)

pub measure_climb-ups-requires : goal.measure_climb-ups-requires
measure_climb-ups-requires c =
    let pre = c.requires in
    walk_climb pre.0 pre.3.walked pre.1 pre.2.first c.meet-t.ensures.0.first

pub measure_climb-downs-requires : goal.measure_climb-downs-requires
measure_climb-downs-requires c =
    let pre = c.requires in
    walk_climb pre.0 pre.3.walked pre.1 pre.2.second c.meet-t.ensures.0.second

pub overflow_add-length : goal.overflow_add-length
overflow_add-length c =
    let measure-climb-ensures = c.measure_climb-ups.ensures in
    omega (arith, measure-climb-ensures.most, c.measure_climb-downs.ensures.most)

pub overflow_add-weight : goal.overflow_add-weight
overflow_add-weight c =
    let measure-climb2-ensures = c.measure_climb-downs.ensures in
    let measure-climb-ensures = c.measure_climb-ups.ensures in
    omega (arith, measure-climb-ensures.high, measure-climb2-ensures.high)

pub overflow_sub-weight : goal.overflow_sub-weight
overflow_sub-weight c =
    let measure-climb2-ensures = c.measure_climb-downs.ensures in
    let measure-climb-ensures = c.measure_climb-ups.ensures in
    omega (arith, measure-climb-ensures.low, measure-climb2-ensures.low)

pub returns : goal.returns
returns c =
    let measure-climb2-ensures = c.measure_climb-downs.ensures in
    let measure-climb-ensures = c.measure_climb-ups.ensures in
    let meet-ensures = c.meet-t.ensures in
    let pre = c.requires in
    way_both pre.0 pre.3 pre.2 meet-ensures.0 measure-climb-ensures measure-climb2-ensures
