use mathlib.Core.Path.{refl}
use mir.Syntax.{w64}
use mir.ValLaws.{to_z-of_z}
use Rattle.paths.proofs.Fresh.{fresh}
use Rattle.pages.proofs.Lift.{weighs_from}
use Rattle.pages.proofs.Firsts.{scanning_start, scanning_ready}
use Rattle.listing.proofs.Scanning.{taken_next, taken_end}
use Rattle.listing.proofs.scan.firsts.Goals as goal

pub loop-u-init : goal.loop-u-init
loop-u-init c = (
  scanning_start refl,
  record { flags = c.requires.1; lengths = fresh.lengths; weights = fresh.weights },
)

pub paths_from-requires : goal.paths_from-requires
paths_from-requires c = (record { ground = c.requires.0; node = c.loop-u-test.true }, c.loop-u.invariant.1)

pub seconds-k-requires : goal.seconds-k-requires
seconds-k-requires c =
    let ground = c.requires.0 in
    scanning_ready c.loop-u.invariant.0 c.loop-u-test.true ground.grown.some.1 (c.paths_from.ensures.0 ground).small
    c.first_second-from.ensures

pub loop-u-preserved : goal.loop-u-preserved
loop-u-preserved c =
    let paths = c.paths_from.ensures in (
      taken_next c.loop-u.invariant.0 c.loop-u-test.true c.requires.0.grown.some.1 paths.0
          c.first_second-from.ensures (weighs_from c.raised.ensures refl) c.seconds-k.ensures,
      paths.1,
    )

pub shape_of-rows : goal.shape_of-rows
shape_of-rows c = c.loop-u.invariant.0.same

pub returns : goal.returns
returns c =
    let e = to_z-of_z w64 c.args.floor c.ranges.floor in
    λ g. rw e at (taken_end c.loop-u.invariant.0 c.loop-u-test.false g)
