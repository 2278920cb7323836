-- Two numbers have no bit together exactly if both are 0, and differ in no bit exactly if they are equal.
use Prim.Native.Nat.{ℕ}
use mathlib.Core.Path.{◌≡◌, ◌∙◌}
use native.Mathlib.Omega.{arith}
use lib.Bits.{bit_or, bit_xor, or_add_and, xor_add_and, and_le_l, and_le_r, or_zero_l, xor_self}
use Rattle.changeset.specs.work.Buffer.{Apart}

or_none : (a b : ℕ) → bit_or a b ≡ 0 → (a ≡ 0) × (b ≡ 0)
or_none a b e =
    let sum = or_add_and a b in
    let l = and_le_l a b in
    let r = and_le_r a b in
    (omega (arith, e, sum, l, r), omega (arith, e, sum, l, r))

xor_none : (a b : ℕ) → bit_xor a b ≡ 0 → a ≡ b
xor_none a b e = omega (arith, e, xor_add_and a b, and_le_l a b, and_le_r a b)

pub apart_is : (off x i : ℕ) → Apart off x i (bit_or off (bit_xor x i))
apart_is off x i =
    record {
      same = λ e. let h = or_none off (bit_xor x i) e in (h.0, xor_none x i h.1);
      none = λ z e. rw (z, e) (or_zero_l (bit_xor i i) ∙ xor_self i);
    }
