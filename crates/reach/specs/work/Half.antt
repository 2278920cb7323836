-- Half-branches: 2r and 2r + 1 are row r, left by its first end and by its second.
use Rattle.std.specs.Prelude.{ℕ, ◌/◌, ◌%◌}
use Rattle.std.proofs.Math.Decide.{ℕ_discrete}

-- the node that half-branch h leaves, row r joining us r and vs r; the node that it leads to is from vs us h
unfoldable pub from : (ℕ → ℕ) → (ℕ → ℕ) → ℕ → ℕ
from us vs h = elim (ℕ_discrete (h % 2) 0) [ yes e ↦ us (h / 2) | no n ↦ vs (h / 2) ]
