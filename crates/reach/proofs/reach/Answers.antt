use Prim.Native.Nat.{◌<◌}
use native.Mathlib.Omega.{arith}
use lib.ListN.{replicate}
use Rattle.arrays.proofs.Fills.{filled, filled_by}
use Rattle.reach.proofs.Queue.{queue_one}
use Rattle.reach.proofs.Walked.{walked}
use Rattle.reach.proofs.reach.Goals.{After-fill-2}
use Rattle.reach.proofs.reach.Goals as goal

start_in : (c : After-fill-2)
    → c.args.start < 4096
start_in c = c.requires.0

pub overflow_cast-parent : goal.overflow_cast-parent
overflow_cast-parent c = omega (arith, start_in c)

pub bounds-parent-start : goal.bounds-parent-start
bounds-parent-start c = omega (arith, start_in (goal.at.bounds-parent-start c).After-fill-2)

pub offset_bounds-parent-start : goal.offset_bounds-parent-start
offset_bounds-parent-start c = omega (arith, start_in c)

pub overflow_cast-order : goal.overflow_cast-order
overflow_cast-order c = omega (arith, start_in (goal.at.overflow_cast-order c).After-fill-2)

pub loop-head-init : goal.loop-head-init
loop-head-init c =
    let pre = c.requires in (
      record {
        place = replicate 4096 0;
        holds = queue_one _ _ _ _ _ _ _ _ pre.0 (filled 4096 4096)
            (filled_by c.told-half c.fill.ensures.after) (filled_by c.told-order c.fill-2.ensures.after)
            (filled 4096 0);
      },
      pre.0,
      pre.1,
      pre.2,
    )

pub visit-tail-requires : goal.visit-tail-requires
visit-tail-requires c =
    let loop-test-taken = c.loop-head-test.true in
    let h = c.loop-head.invariant in
    record { readable = h.2; chains = h.3; ahead = loop-test-taken; outer = rw h.0.holds.queue.root h.0 }

pub loop-head-preserved : goal.loop-head-preserved
loop-head-preserved c =
    let h = c.loop-head.invariant in
    (rw h.0.holds.queue.root at c.visit-tail.ensures, h.1, h.2, h.3)

pub returns : goal.returns
returns c =
    let h = c.loop-head.invariant in
    record {
      place = h.0.place;
      holds = walked _ _ _ _ _ _ _ _ _ h.1 h.2.fit h.0.holds c.loop-head-test.false;
    }
