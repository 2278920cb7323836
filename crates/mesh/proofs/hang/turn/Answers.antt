use Rattle.mesh.proofs.Turning.{
  climbing_start,
  climbing_ready,
  climbing_next,
  turning_start,
  y_fits,
  turning_skip,
  turning_ready,
  turning_next,
  turning_end,
}
use Rattle.mesh.proofs.Growing.{room, grown_start, c_fits}
use Rattle.arrays.specs.At.{at}
use Prim.Native.Nat.{◌<◌}
use mathlib.Core.Path.{ap}
use native.Mathlib.Omega.{arith}
use Rattle.mesh.proofs.hang.turn.Goals.{After-from-y, then-tree-y-eq256, else-tree-y-eq256}
use Rattle.mesh.proofs.hang.turn.Goals as goal

y_in : (c : After-from-y) → c.from-y.result < 256
y_in c =
    let h = c.requires.0.hung in
    let s = c.loop-i.invariant _ _ _ _ h in
    omega (arith, c.from-y.ensures, y_fits h s c.loop-i-test.true, h.few)

pub loop-x-init : goal.loop-x-init
loop-x-init c =
    let pre = c.requires in
    λ u v k place0 h. climbing_start h (grown_start pre.0.hung.few pre.1 c.start.ensures)

pub offset_bounds-old-x : goal.offset_bounds-old-x
offset_bounds-old-x c =
    let h = c.requires.0.hung in
    omega (arith, (c.loop-x.invariant _ _ _ _ h).here.0, h.few)

pub bounds-old-x : goal.bounds-old-x
bounds-old-x c =
    let h = c.requires.0.hung in
    omega (arith, (c.loop-x.invariant _ _ _ _ h).here.0, h.few)

pub hang-requires : goal.hang-requires
hang-requires c =
    let from-ensures = c.from-p.ensures in
    let loop-test-taken = c.loop-x-test.true in
    let loop-inv = c.loop-x.invariant in
    let h = c.requires.0.hung in
    let t = climbing_ready h (loop-inv _ _ _ _ h) loop-test-taken in
    (room t, omega (arith, from-ensures, (c_fits t).0), (c_fits t).1)

pub overflow_add-m : goal.overflow_add-m
overflow_add-m c =
    let loop-test-taken = c.loop-x-test.true in
    let loop-inv = c.loop-x.invariant in
    let h = c.requires.0.hung in
    omega (arith, room (climbing_ready h (loop-inv _ _ _ _ h) loop-test-taken))

pub loop-x-smaller : goal.loop-x-smaller
loop-x-smaller c =
    let loop-test-taken = c.loop-x-test.true in
    let loop-inv = c.loop-x.invariant in
    let h = c.requires.0.hung in
    omega (arith, room (climbing_ready h (loop-inv _ _ _ _ h) loop-test-taken))

pub loop-x-preserved : goal.loop-x-preserved
loop-x-preserved c =
    let from-ensures = c.from-p.ensures in
    let loop-test-taken = c.loop-x-test.true in
    let loop-inv = c.loop-x.invariant in
    λ u v k place0 h. rw (c.hang.ensures.0, c.hang.ensures.1, c.hang.ensures.2, from-ensures)
    (climbing_next h (loop-inv u v k place0 h) loop-test-taken)

pub loop-i-init : goal.loop-i-init
loop-i-init c = λ u v k place0 h. turning_start h (c.loop-x.invariant u v k place0 h) (λ q. q c.loop-x-test.false)

pub hang-requires-then-tree-y-eq256 : goal.hang-requires-then-tree-y-eq256
hang-requires-then-tree-y-eq256 c =
    let from3-ensures = c.from-p-then-tree-y-eq256.ensures in
    let if1-taken = c.if-tree-y-eq256.true in
    let from2-ensures = c.from-y.ensures in
    let loop2-test-taken = c.loop-i-test.true in
    let loop2-inv = c.loop-i.invariant in
    let args = c.args in
    let h = c.requires.0.hung in
    let s = loop2-inv _ _ _ _ h in
    let t = turning_ready h s loop2-test-taken (rw from2-ensures at if1-taken) in (
      room t,
      omega (arith, from2-ensures, (c_fits t).0),
      omega (arith, from3-ensures, ap (λ y. at args.old.now.par y) from2-ensures, (c_fits t).1),
    )

pub overflow_add-m-then-tree-y-eq256 : goal.overflow_add-m-then-tree-y-eq256
overflow_add-m-then-tree-y-eq256 c =
    let if1-taken = c.if-tree-y-eq256.true in
    let from2-ensures = c.from-y.ensures in
    let loop2-test-taken = c.loop-i-test.true in
    let loop2-inv = c.loop-i.invariant in
    let h = c.requires.0.hung in
    let s = loop2-inv _ _ _ _ h in
    omega (arith, room (turning_ready h s loop2-test-taken (rw from2-ensures at if1-taken)))

pub loop-i-preserved : goal.loop-i-preserved
loop-i-preserved c =
    let loop-test-taken = c.loop-i-test.true in
    let loop-inv = c.loop-i.invariant in
    let at-y = c.from-y.ensures in
    elim c.if-tree-y-eq256.branch [
      | then-tree-y-eq256 w ↦
          λ u v k place0 h. rw (
            w.tree-is,
            w.m-is,
            w.hang-then-tree-y-eq256.ensures.0,
            w.hang-then-tree-y-eq256.ensures.1,
            w.hang-then-tree-y-eq256.ensures.2,
            w.from-p-then-tree-y-eq256.ensures,
            at-y,
          ) (turning_next h (loop-inv u v k place0 h) loop-test-taken (rw at-y at w.if-tree-y-eq256.true))
      | else-tree-y-eq256 w ↦
          λ u v k place0 h. rw (w.tree-is, w.m-is)
          (turning_skip h (loop-inv u v k place0 h) loop-test-taken (rw at-y at w.if-tree-y-eq256.false))
    ]

pub returns : goal.returns
returns c = λ u v k place0 h. turning_end h (c.loop-i.invariant u v k place0 h) (λ q. omega arith)
