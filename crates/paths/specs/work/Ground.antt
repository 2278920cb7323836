-- What a sweep stands on: the order of a walk from node 0, each node's parent and place, and of each node's own branch,
-- the one to its parent, the length and the lifted weight.
use Rattle.std.specs.Prelude.{ℕ, ◌≤◌, ◌<◌, ◌≡◌, ◌≢◌, List, ℤ}
use Rattle.arrays.specs.At.{at}
use Rattle.table.specs.work.Diff.{Diff}
use Rattle.net.specs.work.Rooted.{Rooted}
use Rattle.reach.specs.work.Grown.{Grown}
use Rattle.table.specs.work.Lift.{row_lift}

-- some net of n nodes whose walk and branches these are: row r of the first k joins u r and v r, is `long r` long and
-- weighs `heavy r`
pub record Ground (n : ℕ) (parent order place bl bw : List ℕ) : Type 0 where
  pub u : ℕ → ℕ
  pub v : ℕ → ℕ
  pub k : ℕ
  pub long : ℕ → ℕ
  pub heavy : ℕ → ℤ
  pub row : ℕ → ℕ
  pub grown : Grown n parent order place
  pub rooted : Rooted u v k n (at parent) row (at place)
  pub length_is : (x : ℕ) → x < n → x ≢ 0 → at bl x ≡ long (row x)
  pub short : (x : ℕ) → x < n → x ≢ 0 → at bl x ≤ 1000000
  pub weight_is : (x : ℕ) → x < n → x ≢ 0 → Diff (at bw x) row_lift (heavy (row x))
  pub light : (x : ℕ) → x < n → x ≢ 0 → at bw x ≤ 2000000
