-- Signed numbers as text: a minus below 0 and the digits of the amount, and how long that is, also by 64 bits.
use mathlib.Core.Path.{◌≡◌, refl}
use mathlib.Core.Bool.{true, false, true≢false}
use mathlib.Core.List.{◌∷◌}
use Prim.Native.Nat.{ℕ, ◌≤◌, ◌<◌}
use native.Mathlib.Omega.{arith}
use borrow.Author.Tests.{ltb-true}
use lib.IntN.{ℤ, pos, negsuc, nat_abs}
use lib.ListN.{length}
use lib.Signed.{lt_z}
use mir.Syntax.{w64}
use mir.Val.{SFits, to_z, of_z}
use mir.ValLaws.{to_z-of_z}
use Rattle.std.proofs.Math.Facts.{sfits_to_z}
use Rattle.text.specs.Decimal.{decimal, signed}
use Rattle.text.proofs.Decimals.{signed_few}

below : (z : ℤ) → lt_z z (pos 0) ≡ true → signed z ≡ 45 ∷ decimal (nat_abs z)
unfolding signed
below (pos n) h = absurd (omega (arith, ltb-true n 0 h))
below (negsuc n) h = refl

from : (z : ℤ) → lt_z z (pos 0) ≡ false → signed z ≡ decimal (nat_abs z)
unfolding signed
from (pos n) h = refl
from (negsuc n) h = absurd (true≢false h)

-- the same of a number that passes through its bits, as one does from local to local
module _ {k : ℕ} (z : ℤ) (f : SFits w64 z) where
  pub signed_below : lt_z (to_z w64 (of_z w64 z)) (pos 0) ≡ true → k ≡ nat_abs (to_z w64 (of_z w64 z))
      → signed z ≡ 45 ∷ decimal k
  signed_below h e = let b = to_z-of_z w64 z f in rw (e, b) (below z (rw b at h))

  pub signed_from : lt_z (to_z w64 (of_z w64 z)) (pos 0) ≡ false → k ≡ nat_abs (to_z w64 (of_z w64 z))
      → signed z ≡ decimal k
  signed_from h e = let b = to_z-of_z w64 z f in rw (e, b) (from z (rw b at h))

-- any 64 bits make 20 bytes at most
pub bits_few : (b : ℕ) → b < 18446744073709551616 → length (signed (to_z w64 b)) ≤ 20
bits_few b h = signed_few (to_z w64 b) (sfits_to_z (record { fits = h }))
