-- A mark's bits: the mask leaves the fifteen lower bits, and setting the top bit leaves them as they are.
use mathlib.Core.Path.{◌≡◌, ap, ◌∙◌}
use Prim.Native.Nat.{ℕ, ◌+◌, ◌<◌}
use native.Mathlib.Decide.{dec_lt}
use native.Mathlib.Omega.{arith}
use lib.Bits.{bit_and, bit_or, and_mask, or_shifted_r, or_block, or_zero_r}
use Rattle.marks.specs.Mark.{top, run_of, spend}

pub mask_is : (m : ℕ) → bit_and m 32767 ≡ run_of m
mask_is m = and_mask m 15

pub set_is : (m : ℕ) → m < 65536 → bit_or m 32768 ≡ spend m
set_is m fits = pick (dec_lt m top)
  where
    -- 16 bits, the top one set already
    above : (r : ℕ) → r < top → bit_or (top + r) 32768 ≡ top + r
    above r l = or_block 15 1 1 r 0 l (omega arith) ∙ ap (λ (x : ℕ). top + x) (or_zero_r r)

    pick : Dec (m < top) → bit_or m 32768 ≡ spend m
    pick (yes l) = or_shifted_r 1 15 m l ∙ omega arith
    pick (no l) =
        let r : ℕ = run_of m in
        let e : m ≡ top + r = omega arith in
        ap (λ (x : ℕ). bit_or x 32768) e ∙ above r (omega arith)
