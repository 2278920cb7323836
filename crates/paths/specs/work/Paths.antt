-- The paths from one node to every node.
use Rattle.std.specs.Prelude.{ℕ, ◌<◌, ◌≡◌, List, ℤ, length}
use Rattle.arrays.specs.At.{at}
use Rattle.table.specs.work.Diff.{Diff}
use Rattle.net.specs.Value.{Value}
use Rattle.paths.specs.work.Ground.{Ground}
use Rattle.table.specs.work.Lift.{sum_lift, sum_end}

-- two lists hold the length and the lifted weight of the path from a to each node x
pub record Paths {n : ℕ} {parent order place bl bw : List ℕ} (g : Ground n parent order place bl bw) (a : ℕ)
    (len wt : List ℕ) : Type 0 where
  pub value : (x : ℕ) → x < n → (w : ℤ) → Diff (at wt x) sum_lift w
      → Value g.u g.v g.k g.long g.heavy a x (at len x) w
  pub small : (x : ℕ) → x < n → at wt x < sum_end

-- what is asked: there is such a net, and a is one of its nodes
pub record Begun (n a : ℕ) (parent order place bl bw : List ℕ) : Type 0 where
  pub ground : Ground n parent order place bl bw
  pub node : a < n

-- and of the arrays lent, before and after: each has its 4,096 places
pub record ArraysLent (above len wt : List ℕ) : Type 0 where
  pub flags : length above ≡ 4096
  pub lengths : length len ≡ 4096
  pub weights : length wt ≡ 4096
