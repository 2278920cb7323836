-- Two's complement in code: −1 − k.
use mathlib.Core.Path.{◌≡◌, refl, ap}
use Prim.Native.Nat.{ℕ, zero, suc, ◌<◌, ◌^◌}
use native.Mathlib.Nat.{zero-add}
use lib.IntN.{pos, negsuc, ◌-ℤ◌}
use mir.Syntax.{Width}
use mir.Val.{to_z, of_z, SFits, hbits}
use mir.ValLaws.{to_z_pos, to_z-of_z}

minus : (k : ℕ) → negsuc 0 -ℤ pos k ≡ negsuc k
minus zero = refl
minus (suc k) = ap (λ (n : ℕ). negsuc (suc n)) (zero-add k)

-- −1 − k in code, k a signed number of width w that is not negative
pub minus_fits : (w : Width) (k : ℕ) → k < 2 ^ hbits w → SFits w (negsuc 0 -ℤ to_z w k)
minus_fits w k h = rw (to_z_pos w k h, minus k) (record { sfits = h })

pub minus_is : (w : Width) (k : ℕ) → k < 2 ^ hbits w → to_z w (of_z w (negsuc 0 -ℤ to_z w k)) ≡ negsuc k
minus_is w k h = rw (to_z_pos w k h, minus k) (to_z-of_z w (negsuc k) (record { sfits = h }))
