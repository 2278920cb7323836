-- The path between two nodes of a table's net: its length, and its weight under the marks.
use Rattle.std.specs.Prelude.{ℕ, ◌-◌, List, ℤ}
use Rattle.net.specs.Net.{first_end, second_end, length_of}
use Rattle.net.specs.Value.{Value}
use Rattle.marks.specs.Weighs.{weight_under}

-- in the net of n nodes of table s the path from a to b has this length and this weight
abbrev pub PathOf : List ℕ → List ℕ → ℕ → ℕ → ℕ → ℕ → ℤ → Type 0
PathOf s marks n = Value (first_end s) (second_end s) (n - 1) (length_of s) (weight_under s marks)
