-- A group: a node and all nodes that the first rows join to it. No promise asks for groups; by their number it is shown
-- that 12 is not needed.
use Rattle.std.specs.Prelude.{ℕ, ◌<◌}
use Rattle.net.specs.Count.{Count}
use Rattle.net.specs.Graph.{First, Joined}

-- the first k rows join x to no lower node
abbrev pub Lowest : (ℕ → ℕ) → (ℕ → ℕ) → ℕ → ℕ → Type 0
Lowest u v k x = (y : ℕ) → y < x → ¬ Joined u v (First k) y x

-- the first k rows leave the n nodes in m groups: each group is counted by its lowest node
abbrev pub Groups : (ℕ → ℕ) → (ℕ → ℕ) → ℕ → ℕ → ℕ → Type 0
Groups u v k n m = Count (λ x. (x < n) × Lowest u v k x) m
