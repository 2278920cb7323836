use Rattle.mesh.proofs.Sweeping.{farthest_one, farthest_keep, farthest_more}
use mathlib.Core.Path.{◌≡◌}
use native.Mathlib.Omega.{arith}
use Rattle.mesh.proofs.sweep.farthest.Goals.{then-d-x, else-d-x}
use Rattle.mesh.proofs.sweep.farthest.Goals as goal

pub loop-x-init : goal.loop-x-init
loop-x-init c = (c.requires.0, farthest_one _)

pub offset_bounds-d-x : goal.offset_bounds-d-x
offset_bounds-d-x c = omega (arith, c.requires.1)

pub bounds-d-x : goal.bounds-d-x
bounds-d-x c = omega (arith, c.requires.1)

pub offset_bounds-d-z : goal.offset_bounds-d-z
offset_bounds-d-z c = omega (arith, c.requires.1, c.loop-x.invariant.1.within)

pub bounds-d-z : goal.bounds-d-z
bounds-d-z c = omega (arith, c.requires.1, c.loop-x.invariant.1.within)

pub loop-x-preserved : goal.loop-x-preserved
loop-x-preserved c =
    elim c.if-d-x.branch [
      | then-d-x w ↦ rw w.z-is (omega arith, farthest_more c.loop-x.invariant.1 w.if-d-x.true)
      | else-d-x w ↦ rw w.z-is (omega arith, farthest_keep c.loop-x.invariant.1 (omega arith))
    ]

pub returns : goal.returns
returns c = let e : c.loop-x.x ≡ c.args.n = omega arith in rw e at c.loop-x.invariant.1
