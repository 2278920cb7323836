-- `show` meets its contract: the walk, the way between the two nodes and the hops are those of the accepted net.
use Rattle.pair.proofs.Shown.{pair_grown, pair_spined, pair_asks, pair_short, pair_shown}
use Rattle.reach.proofs.Grown.{ordered}
use native.Mathlib.Omega.{arith}
use mir.Syntax.{w64}
use mir.ValLaws.{to_z-of_z}
use Rattle.pair.proofs.show.Goals as goal

pub way_between-way-requires : goal.way_between-way-requires
way_between-way-requires c =
    let walk-ensures = c.walk.ensures in
    let from3-ensures = c.from-y.ensures in
    let from2-ensures = c.from-x.ensures in
    let from-ensures = c.from-n.ensures in
    let pre = c.requires in
    pair_asks from-ensures from2-ensures from3-ensures pre.0 pre.2 walk-ensures pre.1

pub heads_of-requires : goal.heads_of-requires
heads_of-requires c =
    let walk-ensures = c.walk.ensures in
    let from3-ensures = c.from-y.ensures in
    let from2-ensures = c.from-x.ensures in
    let from-ensures = c.from-n.ensures in
    let pre = c.requires in
    ordered (pair_grown from-ensures from2-ensures from3-ensures pre.0 pre.2 walk-ensures)

pub hops-hops-requires : goal.hops-hops-requires
hops-hops-requires c =
    let heads-of-ensures = c.heads_of.ensures in
    let walk-ensures = c.walk.ensures in
    let from3-ensures = c.from-y.ensures in
    let from2-ensures = c.from-x.ensures in
    let from-ensures = c.from-n.ensures in
    let pre = c.requires in
    pair_spined from-ensures from2-ensures from3-ensures pre.0 pre.2 walk-ensures heads-of-ensures

pub overflow_cast-result : goal.overflow_cast-result
overflow_cast-result c =
    let way-between-ensures = c.way_between-way.ensures in
    let walk-ensures = c.walk.ensures in
    let from3-ensures = c.from-y.ensures in
    let from2-ensures = c.from-x.ensures in
    let from-ensures = c.from-n.ensures in
    let pre = c.requires in
    omega (
      arith,
      pair_short from-ensures from2-ensures from3-ensures pre.0 pre.2 walk-ensures
          way-between-ensures c.lowered-weight.ensures,
    )

pub returns : goal.returns
returns c =
    let way-between-ensures = c.way_between-way.ensures in
    let walk-ensures = c.walk.ensures in
    let from3-ensures = c.from-y.ensures in
    let from2-ensures = c.from-x.ensures in
    let from-ensures = c.from-n.ensures in
    let pre = c.requires in
    rw (to_z-of_z w64 c.lowered-weight.result (record { sfits = c.lowered-weight.type_inv }))
    (pair_shown from-ensures from2-ensures from3-ensures pre.0 pre.2 walk-ensures
    way-between-ensures c.lowered-weight.ensures c.hops-hops.ensures)
