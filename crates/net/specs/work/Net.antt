-- All that an accepted net has: what the functions that go on past refusal 11 ask.
use Rattle.std.specs.Prelude.{ℕ, ◌-◌, ◌≤◌, ◌<◌, ◌≢◌, List}
use Rattle.table.specs.Row.{Stands}
use Rattle.table.specs.Signed.{InRange}
use Rattle.net.specs.work.Forest.{Forest}
use Rattle.net.specs.Net.{first_end, second_end, length_of, weight_of, Whole}

-- an accepted net of n nodes: n − 1 good rows, no ring, and all joined
pub record Net (s : List ℕ) (n : ℕ) : Type 0 where
  pub some : 1 ≤ n
  pub few : n ≤ 4096
  pub stands : (r : ℕ) → r < n - 1 → Stands s r
  pub first : (r : ℕ) → r < n - 1 → first_end s r < n
  pub second : (r : ℕ) → r < n - 1 → second_end s r < n
  pub apart : (r : ℕ) → r < n - 1 → first_end s r ≢ second_end s r
  pub short : (r : ℕ) → r < n - 1 → length_of s r ≤ 1000000
  pub within : (r : ℕ) → r < n - 1 → InRange (weight_of s r)
  pub forest : Forest (first_end s) (second_end s) (n - 1)
  pub joined : Whole s n
