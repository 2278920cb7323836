-- `paths::paths_from` climbs, then sweeps: what the climb leaves of any net is what the sweep begins with.
use Rattle.paths.proofs.Climbs.{climbable}
use Rattle.paths.proofs.Sweeps.{sweeping_paths}
use Rattle.paths.proofs.Swept.paths_from.Goals as goal

pub climb-top-requires : goal.climb-top-requires
climb-top-requires c = (climbable c.requires.0.ground c.requires.0.node, c.requires.1.flags)

pub sweep-requires : goal.sweep-requires
sweep-requires c =
    let climb-ensures = c.climb-top.ensures in
    let pre = c.requires in (
      record {
        place = _;
        ground = pre.0.ground;
        node = pre.0.node;
        marked = climb-ensures.0 (climbable pre.0.ground pre.0.node);
      },
      pre.1.lengths,
      pre.1.weights,
    )

pub returns : goal.returns
returns c =
    let climb-ensures = c.climb-top.ensures in
    let pre = c.requires in (
      λ g. sweeping_paths c.sweep.ensures
          (record {
            place = _;
            ground = g;
            node = pre.0.node;
            marked = climb-ensures.0 (climbable g pre.0.node);
          }),
      record { flags = climb-ensures.1; lengths = c.sweep.ensures.len_long; weights = c.sweep.ensures.wt_long },
    )
