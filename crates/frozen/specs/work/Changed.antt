-- The changed table that an operation is asked of.
use Rattle.std.specs.Prelude.{◌≡◌, List, ℕ, Result, Ok, Err}
use Rattle.tree.specs.declared.Refusal.{Refusal}
use Rattle.changeset.specs.With.{With}

-- the changed table, or why it cannot be made
abbrev pub Changed : Type 0
Changed = Result (List ℕ) Refusal

abbrev pub changed_refusal : ℕ → ℕ → ℕ → Changed
changed_refusal k r g = Err (record { number = k; row = r; ring = g })

-- 1 to 6, 33 or 34; or the changed table
abbrev pub Makes : List ℕ → List ℕ → Changed → Type 0
Makes s c = With Changed changed_refusal s c (λ t o. o ≡ Ok t)
