use Prim.Native.Nat.{◌<◌}
use native.Mathlib.Omega.{arith}
use Rattle.arrays.proofs.Fills.{filled_by}
use Rattle.spines.proofs.MainSweep.{bests_none, bests_more, mains_all, best_small, read_child}
use Rattle.spines.proofs.sweeps.mains_of.Goals.{After-from-p}
use Rattle.spines.proofs.sweeps.mains_of.Goals as goal

parent_in : (c : After-from-p)
    → c.from-p.result < c.args.n
parent_in c =
    let h = c.loop-c.invariant in
    read_child h.1 _ _ h.2 c.loop-c-test.true c.from-p.ensures

parent_small : (c : After-from-p) → c.from-p.result < 4096
parent_small c = omega (arith, c.loop-c.invariant.1.some.1, parent_in c)

pub loop-c-init : goal.loop-c-init
loop-c-init c =
    let k = c.requires.0 in
    (bests_none _ _ _ _ k.some.1 (filled_by c.told-main c.fill.ensures.after), k, omega arith, k.some.0)

pub offset_bounds-main-p : goal.offset_bounds-main-p
offset_bounds-main-p c = omega (arith, parent_small c)

pub bounds-main-p : goal.bounds-main-p
bounds-main-p c = omega (arith, parent_small (goal.at.bounds-main-p c).After-from-p)

pub better-requires : goal.better-requires
better-requires c =
    let h = c.loop-c.invariant in (
      omega (
        arith,
        c.from-q.ensures,
        best_small _ h.1.some.1 h.3 (parent_in (goal.at.better-requires c).After-from-p) h.0,
      ),
      omega (arith, h.1.some.1),
    )

pub overflow_cast-main : goal.overflow_cast-main
overflow_cast-main c = omega (arith, c.better.ensures.small)

pub offset_bounds-main-p-in-loop-c : goal.offset_bounds-main-p-in-loop-c
offset_bounds-main-p-in-loop-c c = omega (arith, parent_small (goal.at.offset_bounds-main-p-in-loop-c c).After-from-p)

pub bounds-main-p-in-loop-c : goal.bounds-main-p-in-loop-c
bounds-main-p-in-loop-c c = omega (arith, parent_small (goal.at.bounds-main-p-in-loop-c c).After-from-p)

pub loop-c-preserved : goal.loop-c-preserved
loop-c-preserved c =
    let loop-test-taken = c.loop-c-test.true in
    let h = c.loop-c.invariant in
    let e = c.from-p.ensures in (
      bests_more _ _ _ _ _ _ _ h.1.some.1 loop-test-taken (omega arith)
          (rw e at (parent_in (goal.at.loop-c-preserved c).After-from-p)) e h.0
          (rw c.from-q.ensures at c.better.ensures),
      h.1,
      omega arith,
      omega arith,
    )

pub returns : goal.returns
returns c =
    let Leaves-all = c.requires.1 in
    mains_all Leaves-all c.loop-c.invariant.0 (omega arith)
