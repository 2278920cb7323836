-- The path between two nodes as the two climbs give it, its weight lifted.
use Rattle.std.specs.Prelude.{ℕ, ◌<◌, List, ℤ}
use Rattle.table.specs.work.Diff.{Diff}
use Rattle.table.specs.work.Lift.{sum_lift, sum_end}
use Rattle.ground.specs.PathOf.{PathOf}

-- the path from x to y has length l and lifted weight q
pub record WayOf (s marks : List ℕ) (n x y l q : ℕ) : Type 0 where
  pub value : (w : ℤ) → Diff q sum_lift w → PathOf s marks n x y l w
  pub small : q < sum_end
