-- The net that a table holds: the two ends of each row, its length and its weight; when all nodes are joined; and what
-- two nodes must be, where an operation takes two.
use Rattle.std.specs.Prelude.{ℕ, ◌-◌, ◌<◌, ◌≢◌, List, ℤ}
use Rattle.table.specs.Row.{row_at}
use Rattle.net.specs.Graph.{First, Joined}

unfoldable pub first_end : List ℕ → ℕ → ℕ
first_end s r = (row_at s r).a

unfoldable pub second_end : List ℕ → ℕ → ℕ
second_end s r = (row_at s r).b

unfoldable pub length_of : List ℕ → ℕ → ℕ
length_of s r = (row_at s r).length

unfoldable pub weight_of : List ℕ → ℕ → ℤ
weight_of s r = (row_at s r).weight

-- each of n nodes is joined to node 0
abbrev pub Whole : List ℕ → ℕ → Type 0
Whole s n = (x : ℕ) → x < n → Joined (first_end s) (second_end s) (First (n - 1)) 0 x

-- two different nodes of a net of n, else 15
pub record TwoNodes (n a b : ℕ) : Type 0 where
  pub first : a < n
  pub second : b < n
  pub apart : a ≢ b
