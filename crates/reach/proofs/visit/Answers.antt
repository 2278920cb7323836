use Prim.Native.Nat.{◌-◌, ◌<◌}
use native.Mathlib.Omega.{arith}
use Rattle.reach.proofs.Queue.{going_start, going_keep, going_room, going_push, inner_end, leads_place}
use Rattle.reach.proofs.visit.Goals.{then-parent-c-eq4096, else-parent-c-eq4096, After-leads-c}
use Rattle.reach.proofs.visit.Goals as goal

node_in : (c : After-leads-c) → c.leads-c.result < 4096
node_in c =
    let loop-inv = c.loop-x.invariant in
    leads_place _ _ _ _ _ _ _ _ _ _ _ _ _ loop-inv.0.holds c.loop-x-test.true loop-inv.1.fit
    c.leads-c.ensures

pub bounds-first-p : goal.bounds-first-p
bounds-first-p c =
    let pre = c.requires in
    rw c.from-p.ensures (pre.outer.holds.queue.within _ pre.ahead)

pub loop-x-init : goal.loop-x-init
loop-x-init c =
    let t = c.requires in (
      record {
        place = t.outer.place;
        holds = going_start _ _ _ _ _ _ _ _ _ _ _ _ _ t.chains t.ahead t.outer.holds
            c.from-p.ensures c.from-x.ensures;
      },
      t.readable,
    )

pub leads-c-requires : goal.leads-c-requires
leads-c-requires c = let g = c.loop-x.invariant in g.1.stands _ (omega (arith, g.0.holds.low))

pub offset_bounds-parent-c : goal.offset_bounds-parent-c
offset_bounds-parent-c c = omega (arith, node_in c)

pub bounds-parent-c : goal.bounds-parent-c
bounds-parent-c c = omega (arith, node_in (goal.at.bounds-parent-c c).After-leads-c)

pub offset_bounds-parent-c-then-parent-c-eq4096 : goal.offset_bounds-parent-c-then-parent-c-eq4096
offset_bounds-parent-c-then-parent-c-eq4096 c = omega (
  arith,
  node_in
      (goal.at.offset_bounds-parent-c-then-parent-c-eq4096 c).After-leads-c,
)

pub bounds-parent-c-then-parent-c-eq4096 : goal.bounds-parent-c-then-parent-c-eq4096
bounds-parent-c-then-parent-c-eq4096 c = omega (
  arith,
  node_in
      (goal.at.bounds-parent-c-then-parent-c-eq4096 c).After-leads-c,
)

pub offset_bounds-half-c : goal.offset_bounds-half-c
offset_bounds-half-c c = omega (arith, node_in (goal.at.offset_bounds-half-c c).After-leads-c)

pub bounds-half-c : goal.bounds-half-c
bounds-half-c c = omega (arith, node_in (goal.at.bounds-half-c c).After-leads-c)

pub overflow_cast-order : goal.overflow_cast-order
overflow_cast-order c = omega (arith, node_in (goal.at.overflow_cast-order c).After-leads-c)

pub bounds-order-m : goal.bounds-order-m
bounds-order-m c =
    let loop-test-taken = c.loop-x-test.true in
    let loop-inv = c.loop-x.invariant in
    going_room _ _ _ _ _ _ _ _ _ _ _ _ _ loop-inv.0.holds loop-test-taken _ c.leads-c.ensures
    (node_in (goal.at.bounds-order-m c).After-leads-c) c.if-parent-c-eq4096.true

pub loop-x-smaller : goal.loop-x-smaller
loop-x-smaller c =
    let loop-test-taken = c.loop-x-test.true in
    let loop-x = c.loop-x.x in
    let g = c.loop-x.invariant.0.holds in
    omega (
      arith,
      c.from-x-in-loop-x.ensures,
      (g.chains.nexts (loop-x - 1)
          (omega (arith, g.low, loop-test-taken))).below,
    )

pub loop-x-preserved : goal.loop-x-preserved
loop-x-preserved c =
    let loop-inv = c.loop-x.invariant in
    let g = loop-inv.0.holds in
    let z = c.loop-x-test.true in
    let e = c.leads-c.ensures in (
      elim c.if-parent-c-eq4096.branch [
        | then-parent-c-eq4096 w ↦
            rw (w.parent-is, w.half-is, w.order-is, w.m-is)
            (record {
              place = _;
              holds = going_push _ _ _ _ _ _ _ _ _ _ _ _ _ g z _ _ e
                  (node_in (goal.at.loop-x-preserved c).After-leads-c)
                  w.if-parent-c-eq4096.true c.from-x-in-loop-x.ensures;
            })
        | else-parent-c-eq4096 w ↦
            rw (w.parent-is, w.half-is, w.order-is, w.m-is)
            (record {
              place = _;
              holds = going_keep _ _ _ _ _ _ _ _ _ _ _ _ _ g z _ _ e w.if-parent-c-eq4096.false
                  c.from-x-in-loop-x.ensures;
            })
      ],
      loop-inv.1,
    )

pub returns : goal.returns
returns c =
    let g = c.loop-x.invariant.0 in
    record { place = g.place; holds = inner_end _ _ _ _ _ _ _ _ _ _ _ g.holds.inner (omega arith) }
