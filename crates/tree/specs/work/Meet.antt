-- Where the climbs of two nodes meet: above both, and below whatever else is above both.
use Rattle.std.specs.Prelude.{ℕ, ◌≤◌, ◌<◌, ◌≡◌, ◌≢◌, List}
use Rattle.arrays.specs.At.{at}
use Rattle.net.specs.work.Rooted.{Above}

pub record Meets (par : ℕ → ℕ) (x y t : ℕ) : Type 0 where
  pub first : Above par t x
  pub second : Above par t y
  pub lowest : (z : ℕ) → Above par z x → Above par z y → Above par z t

-- what climbing asks of a walk: each parent is a node and stands earlier, node 0 stands first, and no two stand at one
-- place
pub record Hung (n : ℕ) (parent place : List ℕ) : Type 0 where
  pub few : n ≤ 4096
  pub fits : (x : ℕ) → x < n → x ≢ 0 → at parent x < n
  pub earlier : (x : ℕ) → x < n → x ≢ 0 → at place (at parent x) < at place x
  pub same : (x y : ℕ) → x < n → y < n → at place x ≡ at place y → x ≡ y
  pub first : at place 0 ≡ 0
