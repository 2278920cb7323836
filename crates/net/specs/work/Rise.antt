-- The climb from a node up to another one above it, over a walk of the net: the rows on it.
use Rattle.std.specs.Prelude.{◌≡◌, ◌≢◌, List, [], ◌∷◌, ℕ, ◌-◌, ◌/◌, ◌≤◌, ◌<◌}
use Rattle.arrays.specs.At.{at}
use Rattle.net.specs.work.Rooted.{Rooted}

-- the rows on the climb from a node up to t, in order
pub data Rise (par row : ℕ → ℕ) (t : ℕ) : ℕ → List ℕ → Type 0 where
  here : Rise par row t t []
  up : {x y : ℕ} {rs : List ℕ} → x ≢ 0 → par x ≡ y → Rise par row t y rs → Rise par row t x (row x ∷ rs)

-- the row of a node, of the walk's half-branches
abbrev pub row_of : List ℕ → ℕ → ℕ
row_of half x = at half x / 2

-- a climb from x to t over a walk of a net of k rows
pub record WalkClimb (k : ℕ) (parent half place : List ℕ) (x t : ℕ) : Type 0 where
  pub nodes : ℕ
  pub few : nodes ≤ 4096
  pub many : k ≡ nodes - 1
  pub first : ℕ → ℕ
  pub second : ℕ → ℕ
  pub rooted : Rooted first second (nodes - 1) nodes (at parent) (row_of half) (at place)
  pub fits : x < nodes
  pub low : at place x < nodes
  pub rows : List ℕ
  pub rise : Rise (at parent) (row_of half) t x rows
