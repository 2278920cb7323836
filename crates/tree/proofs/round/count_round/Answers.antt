use native.Mathlib.Omega.{arith}
use Rattle.tree.proofs.Begins.{readable_less}
use Rattle.tree.proofs.Around.{round_start, round_fits, round_less, round_more, round_end}
use Rattle.tree.proofs.round.count_round.Goals as goal

pub first_end-requires : goal.first_end-requires
first_end-requires c = c.requires.readable.stands _ (omega arith)

pub walk_from-requires : goal.walk_from-requires
walk_from-requires c =
    let first-end-ensures = c.first_end.ensures in
    let pre = c.requires in
    (rw first-end-ensures (pre.readable.fit.first _ (omega arith)), readable_less (omega arith) pre.readable)

pub second_end-x-requires : goal.second_end-x-requires
second_end-x-requires c =
    let pre = c.requires in
    pre.readable.stands _ (omega arith)

pub loop-x-init : goal.loop-x-init
loop-x-init c =
    let first-end-ensures = c.first_end.ensures in
    let pre = c.requires in
    round_start first-end-ensures c.second_end-x.ensures
    (rw c.second_end-x.ensures (pre.readable.fit.second _ (omega arith))) pre.joins
    c.walk_from.ensures

pub offset_bounds-walk-x : goal.offset_bounds-walk-x
offset_bounds-walk-x c = omega (arith, round_fits c.loop-x.invariant)

pub bounds-walk-x : goal.bounds-walk-x
bounds-walk-x c = omega (arith, round_fits c.loop-x.invariant)

pub offset_bounds-walk-x-in-loop-x : goal.offset_bounds-walk-x-in-loop-x
offset_bounds-walk-x-in-loop-x c = omega (arith, round_fits c.loop-x.invariant)

pub bounds-walk-x-in-loop-x : goal.bounds-walk-x-in-loop-x
bounds-walk-x-in-loop-x c = omega (arith, round_fits c.loop-x.invariant)

pub overflow_add-g : goal.overflow_add-g
overflow_add-g c = omega (arith, c.loop-x.invariant.climbed.most)

pub loop-x-smaller : goal.loop-x-smaller
loop-x-smaller c =
    let loop-inv = c.loop-x.invariant in
    round_less loop-inv _ c.loop-x-test.true c.from-x.ensures

pub loop-x-preserved : goal.loop-x-preserved
loop-x-preserved c =
    let loop-inv = c.loop-x.invariant in
    round_more loop-inv _ c.loop-x-test.true c.from-x.ensures

pub returns : goal.returns
returns c = round_end c.loop-x.invariant (omega (arith, c.loop-x-test.false))
