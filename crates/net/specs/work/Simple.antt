-- A path that meets no node twice, along rows of any property.
use Rattle.std.specs.Prelude.{ℕ, List, ◌∷◌}
use Rattle.arrays.specs.Members.{Distinct}
use Rattle.net.specs.Graph.{Walk}

abbrev pub Simple : (ℕ → ℕ) → (ℕ → ℕ) → (ℕ → Type 0) → ℕ → ℕ → Type 0
Simple u v P a b = (rs : List ℕ) × (ns : List ℕ) × Walk u v P a rs ns b × Distinct (a ∷ ns)
