-- The range of a weight.
use Rattle.std.specs.Prelude.{ℤ, pos, negsuc, ◌≤ℤ◌}

-- a weight from −1,000,000 to 1,000,000
abbrev pub InRange : ℤ → Type 0
InRange z = (negsuc 999999 ≤ℤ z) × (z ≤ℤ pos 1000000)
