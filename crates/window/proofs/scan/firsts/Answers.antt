use Prim.Native.Nat.{◌≤◌}
use mathlib.Core.Path.{refl}
use native.Mathlib.Omega.{arith}
use Rattle.paths.proofs.Fresh.{fresh}
use Rattle.pages.proofs.Firsts.{scanning_start}
use Rattle.window.proofs.Scanning.{taken_next, taken_end}
use Rattle.window.proofs.scan.firsts.Goals.{In-loop-u}
use Rattle.window.proofs.scan.firsts.Goals as goal

few : (c : In-loop-u) → c.args.swept.now.n ≤ 4096
few c = c.requires.0.keys.grown.some.1

pub loop-u-init : goal.loop-u-init
loop-u-init c =
    let lent = c.requires.1 in (
      scanning_start refl,
      record {
        keys = lent;
        lengths = record { flags = lent.flags; lengths = fresh.lengths; weights = lent.weights };
      },
    )

pub offset_bounds-hits-u : goal.offset_bounds-hits-u
offset_bounds-hits-u c = omega (arith, few (goal.at.offset_bounds-hits-u c).In-loop-u)

pub bounds-hits-u : goal.bounds-hits-u
bounds-hits-u c = omega (arith, few (goal.at.bounds-hits-u c).In-loop-u)

pub rows_of-k-requires : goal.rows_of-k-requires
rows_of-k-requires c =
    let page = c.loop-u.invariant.0 in (
      c.requires.0,
      c.loop-u.invariant.1,
      record {
        low = omega (arith, page.same, page.room_low);
        high = omega (arith, page.same, page.room_high);
        node = c.loop-u-test.true;
        few = page.few;
      },
    )

pub loop-u-preserved : goal.loop-u-preserved
loop-u-preserved c =
    let rows = c.rows_of-k.ensures in (
      taken_next c.loop-u.invariant.0 c.args.hits.now c.loop-u-test.true c.requires.0.keys.grown.some.1 c.requires.2
          refl rows.0,
      rows.1,
    )

pub shape_of-rows : goal.shape_of-rows
shape_of-rows c = c.loop-u.invariant.0.same

pub returns : goal.returns
returns c = λ g. taken_end c.loop-u.invariant.0 c.loop-u-test.false g
