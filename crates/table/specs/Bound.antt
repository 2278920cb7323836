-- Two tables that are equal but for the bytes of B.
use Rattle.std.specs.Prelude.{◌≡◌, List, ◌⊎◌, ℕ, ◌≤◌, ◌<◌, length}
use Rattle.table.specs.Bytes.{byte_at}

-- as many bytes, and all of them equal but the four from place 8 on
pub record SameButBound (s t : List ℕ) : Type 0 where
  pub size : length s ≡ length t
  pub bytes : (i : ℕ) → (i < 8) ⊎ (12 ≤ i) → byte_at s i ≡ byte_at t i
