-- The simple path between two nodes, and the sum of what its rows have.
use Rattle.std.specs.Prelude.{ℕ, ◌+◌, List, [], ◌∷◌}
use Rattle.arrays.specs.Members.{Distinct}
use Rattle.net.specs.Graph.{First, Walk}

abbrev pub Sum : (ℕ → ℕ) → List ℕ → ℕ
Sum f [] = 0
Sum f (r ∷ rs) = f r + Sum f rs

module _ (u v : ℕ → ℕ) where
  -- the rows rs, of the first k, lead from x to y and meet no node twice
  abbrev pub Path : ℕ → ℕ → List ℕ → ℕ → Type 0
  Path k x rs y = (ns : List ℕ) × Walk u v (First k) x rs ns y × Distinct (x ∷ ns)
