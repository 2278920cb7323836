-- Signed numbers as a difference of two naturals, so that sums and orders of them are those of naturals.
use Rattle.std.specs.Prelude.{◌≡◌, ℕ, suc, ◌+◌, ℤ, pos, negsuc}

-- z is a − b. (`negsuc n` is −1 − n.)
pub data Diff (a b : ℕ) : ℤ → Type 0 where
  up : (n : ℕ) → a ≡ b + n → Diff a b (pos n)
  down : (n : ℕ) → b ≡ a + suc n → Diff a b (negsuc n)
