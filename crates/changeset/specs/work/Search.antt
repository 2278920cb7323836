-- How many entries a set has.
use Rattle.std.specs.Prelude.{List, ℕ, ◌<◌}
use Rattle.changeset.specs.Entries.{HasEntry}

-- k entries are there, whole ones
pub record EntryCount (c : List ℕ) (k : ℕ) : Type 0 where
  pub there : (i : ℕ) → i < k → HasEntry c i
  pub all : (i : ℕ) → HasEntry c i → i < k
