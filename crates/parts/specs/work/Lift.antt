-- Distances and weights from the root, by spot, and the lift that keeps their differences natural numbers.
use Rattle.std.specs.Prelude.{ℕ, ◌*◌, ◌≤◌, ◌<◌, List}
use Rattle.arrays.specs.At.{at}

-- 2 ^ 40
abbrev pub key_lift : ℕ
key_lift = 1099511627776

pub record Low (d : List ℕ) : Type 0 where
  pub low : (x : ℕ) → x < 4096 → 2 * at d x ≤ key_lift

pub record World (d w : List ℕ) : Type 0 where
  pub far : Low d
  pub heavy : Low w
