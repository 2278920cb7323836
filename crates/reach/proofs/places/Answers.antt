use Prim.Native.Nat.{◌<◌}
use mathlib.Core.Path.{◌≡◌}
use native.Mathlib.Omega.{arith}
use Rattle.arrays.proofs.Fills.{filled_by}
use Rattle.reach.proofs.Placing.{places_none, places_next}
use Rattle.reach.proofs.places.Goals.{After-from-x}
use Rattle.reach.proofs.places.Goals as goal

node_in : (c : After-from-x) → c.from-x.result < 4096
node_in c =
    omega (arith, c.from-x.ensures, c.loop-i.invariant.1.within _ c.loop-i-test.true)

pub loop-i-init : goal.loop-i-init
loop-i-init c = (places_none (filled_by c.told-place c.fill.ensures.after), c.requires, omega arith)

pub offset_bounds-place-x : goal.offset_bounds-place-x
offset_bounds-place-x c = omega (arith, node_in c)

pub bounds-place-x : goal.bounds-place-x
bounds-place-x c = omega (arith, node_in (goal.at.bounds-place-x c).After-from-x)

pub loop-i-preserved : goal.loop-i-preserved
loop-i-preserved c =
    let h = c.loop-i.invariant in
    (places_next _ h.1 c.loop-i-test.true c.from-x.ensures h.0, h.1, omega arith)

pub returns : goal.returns
returns c =
    let h = c.loop-i.invariant in
    let e : c.args.n ≡ c.loop-i.i = omega arith in
    rw e h.0
