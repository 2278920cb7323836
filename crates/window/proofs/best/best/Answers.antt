use Prim.Native.Nat.{◌≤◌}
use native.Mathlib.Omega.{arith}
use lib.ListN.{length-set}
use Rattle.arrays.proofs.Fills.{filled_by}
use Rattle.window.proofs.Scanning.{searched_none, searched_next, searched_end, searched_early}
use Rattle.window.proofs.best.best.Goals.{In-loop-u}
use Rattle.window.proofs.best.best.Goals as goal

few : (c : In-loop-u) → c.args.ones.now.n ≤ 4096
few c = c.requires.0.grown.some.1

pub loop-u-init : goal.loop-u-init
loop-u-init c =
    let one = filled_by {m = 4096} {v = 1} c.told-hits c.fill.ensures.after in
    (λ g. searched_none _ g c.requires.0.grown.some.1 one, c.requires.1, one.long)

pub returns-then-met : goal.returns-then-met
returns-then-met c =
    let inv = c.loop-u.invariant in
    (λ g. searched_early _ g (inv.0 g) (c.met.ensures.holds c.if-met.true).1, inv.1)

pub paths_from-requires : goal.paths_from-requires
paths_from-requires c =
    (record { ground = c.requires.0; node = c.loop-u-test.true }, c.loop-u.invariant.1)

pub among-b-requires : goal.among-b-requires
among-b-requires c = (c.loop-u-test.true, few (goal.at.among-b-requires c).In-loop-u)

pub offset_bounds-hits-u : goal.offset_bounds-hits-u
offset_bounds-hits-u c = omega (arith, few (goal.at.offset_bounds-hits-u c).In-loop-u)

pub bounds-hits-u : goal.bounds-hits-u
bounds-hits-u c = omega (arith, few (goal.at.bounds-hits-u c).In-loop-u)

pub loop-u-preserved : goal.loop-u-preserved
loop-u-preserved c =
    let inv = c.loop-u.invariant in (
      λ g. searched_next _ g (inv.0 g) (omega arith) c.loop-u-test.true inv.2 c.requires.0.grown.some.1
          (c.paths_from.ensures.0 g.ground) c.among-b.ensures,
      c.paths_from.ensures.1,
      simp length-set inv.2,
    )

pub returns : goal.returns
returns c =
    let inv = c.loop-u.invariant in
    (λ g. searched_end _ g (inv.0 g) c.loop-u-test.false, inv.1)
