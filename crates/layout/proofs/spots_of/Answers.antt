-- `layout::spots_of` meets its contract: the spots are as laying out asks, and what is laid out tells the net's paths.
use Rattle.layout.proofs.Numbers.{layable}
use Rattle.layout.proofs.Spotting.{spotted}
use Rattle.layout.proofs.spots_of.Goals as goal

pub lay_spots-requires : goal.lay_spots-requires
lay_spots-requires c =
    let pre = c.requires in
    let l = layable pre.grown c.number.ensures.heads_all c.number.ensures.sizes_all c.number.ensures.seating in
    record { spots = l.spots; by_index = l.parents }

pub lay_long-requires : goal.lay_long-requires
lay_long-requires c =
    let pre = c.requires in
    (layable pre.grown c.number.ensures.heads_all c.number.ensures.sizes_all c.number.ensures.seating).spots

pub lay_long-requires-2 : goal.lay_long-requires-2
lay_long-requires-2 c =
    let pre = c.requires in
    (layable pre.grown c.number.ensures.heads_all c.number.ensures.sizes_all c.number.ensures.seating).spots

pub returns : goal.returns
returns c =
    let paths-from-ensures = c.paths_from.ensures in
    λ g.
    let s = c.number.ensures in
    spotted g _ _ (paths-from-ensures.0 g) s.heads_all s.sizes_all s.seating c.lay_spots.ensures c.lay_long.ensures
    c.lay_long-2.ensures
