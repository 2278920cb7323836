-- `layout::heaviest_pair` meets its contract: the numbering is what `whole` asks; the best pair of spots is the best
-- pair of nodes over their climbs, and so over the net's own paths.
use Rattle.limits.proofs.Tests.{within_raised, within_lowered}
use Rattle.parts.specs.work.Lift.{key_lift}
use Rattle.layout.proofs.Numbers.{layable, numbering, part}
use Rattle.layout.proofs.Choosing.{laid_low, chosen}
use Rattle.layout.proofs.Weighing.{d_low, w_low, heaviest}
use Rattle.layout.proofs.heaviest_pair.Goals as goal

pub lay_out-requires : goal.lay_out-requires
lay_out-requires c =
    layable c.requires.ground.grown c.number.ensures.heads_all c.number.ensures.sizes_all c.number.ensures.seating

pub whole-requires : goal.whole-requires
whole-requires c =
    let o = c.lay_out.ensures in
    let paths-from-ensures = c.paths_from.ensures in
    let g = c.requires.ground in
    let p = paths-from-ensures.0 g in
    let m = numbering g.grown c.number.ensures.heads_all c.number.ensures.sizes_all c.number.ensures.seating o in
    record {
      world = record {
        far = laid_low g.grown m _ _ o.distances (d_low g _ _ p);
        heavy = laid_low g.grown m _ _ o.weights (w_low g _ _ p);
      };
      part = part g.grown m;
      n_nonzero = g.grown.some;
    }

pub returns : goal.returns
returns c =
    let lay-out-ensures = c.lay_out.ensures in
    let paths-from-ensures = c.paths_from.ensures in
    let args = c.args in
    λ g.
    let o = lay-out-ensures in
    let s = c.number.ensures in
    let l = args.limit in
    heaviest g _ _ (paths-from-ensures.0 g) _ _ (within_raised key_lift l.exact l.most)
    (within_lowered key_lift l.exact l.most) _
    (chosen g.grown (numbering g.grown s.heads_all s.sizes_all s.seating o) _ _ _ _ o.distances o.weights _ _
    c.whole.ensures)
