use Rattle.mesh.proofs.Climbs.{climb_start, step_fits, step_two, step_next, step_less, band_low, climb_end}
use mathlib.Core.Bool.{true≢false, false≢true}
use Prim.Native.Nat.{◌<◌}
use native.Mathlib.Omega.{arith}
use Rattle.mesh.proofs.bands.round.Goals.{After-later-z}
use Rattle.mesh.proofs.bands.round.Goals as goal

z_in : (c : After-later-z) → c.later-z.result < 256
z_in c =
    let s = c.loop-x.invariant _ _ _ _ _ _ _ c.requires.round in
    omega (arith, (step_fits s c.loop-x-test.true _ c.later-z.ensures).0, s.hung.few)

pub later-band-requires : goal.later-band-requires
later-band-requires c =
    let t = c.requires.round in (
      omega (arith, t.ends.0, t.hung.rows.first _ t.row, t.hung.few),
      omega (arith, t.ends.1, t.hung.rows.second _ t.row, t.hung.few),
    )

pub loop-x-init : goal.loop-x-init
loop-x-init c = λ u v k n a order r t. climb_start t c.later-band.ensures

pub later-z-requires : goal.later-z-requires
later-z-requires c =
    let pre = c.requires in
    let s = c.loop-x.invariant _ _ _ _ _ _ _ pre.round in
    (omega (arith, s.fits.0, s.hung.few), omega (arith, s.fits.1, s.hung.few))

pub offset_bounds-over-z : goal.offset_bounds-over-z
offset_bounds-over-z c = omega (arith, z_in c)

pub bounds-over-z : goal.bounds-over-z
bounds-over-z c = omega (arith, z_in (goal.at.bounds-over-z c).After-later-z)

pub returns-then-over-z-ne256 : goal.returns-then-over-z-ne256
returns-then-over-z-ne256 c =
    let loop-test-taken = c.loop-x-test.true in
    let loop-inv = c.loop-x.invariant in
    λ u v k n a order r t. (
      λ e. absurd (false≢true e),
      λ _. step_two (loop-inv u v k n a order r t) loop-test-taken _ c.later-z.ensures
          (λ e. omega (arith, e, c.if-over-z-ne256.true)),
    )

pub overflow_cast-over : goal.overflow_cast-over
overflow_cast-over c =
    let loop-test-taken = c.loop-x-test.true in
    let loop-inv = c.loop-x.invariant in
    let pre = c.requires in
    let s = loop-inv _ _ _ _ _ _ _ pre.round in
    omega (arith, band_low s loop-test-taken _ c.later-z.ensures, s.hung.few)

pub overflow_add-y : goal.overflow_add-y
overflow_add-y c =
    let loop-inv = c.loop-x.invariant in
    let pre = c.requires in
    let s = loop-inv _ _ _ _ _ _ _ pre.round in
    omega (arith, s.fits.0, s.fits.1, s.hung.few)

pub overflow_sub-y : goal.overflow_sub-y
overflow_sub-y c =
    let loop-test-taken = c.loop-x-test.true in
    let loop-inv = c.loop-x.invariant in
    let pre = c.requires in
    omega (
      arith,
      (step_fits (loop-inv _ _ _ _ _ _ _ pre.round) loop-test-taken _ c.later-z.ensures).1,
    )

pub loop-x-smaller : goal.loop-x-smaller
loop-x-smaller c =
    let later2-ensures = c.later-z.ensures in
    let loop-test-taken = c.loop-x-test.true in
    let loop-inv = c.loop-x.invariant in
    let pre = c.requires in
    rw c.from-x.ensures (step_less (loop-inv _ _ _ _ _ _ _ pre.round) loop-test-taken _ later2-ensures)

pub loop-x-preserved : goal.loop-x-preserved
loop-x-preserved c =
    let later2-ensures = c.later-z.ensures in
    let loop-test-taken = c.loop-x-test.true in
    let loop-inv = c.loop-x.invariant in
    λ u v k n a order r t. rw c.from-x.ensures
    (step_next (loop-inv u v k n a order r t) loop-test-taken _ later2-ensures
    (omega arith))

pub returns : goal.returns
returns c =
    λ u v k n a order r t. (
      λ _. climb_end (c.loop-x.invariant u v k n a order r t) c.loop-x-test.false,
      λ e. absurd (true≢false e),
    )
