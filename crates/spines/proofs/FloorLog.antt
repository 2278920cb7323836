-- The floor of a binary logarithm: every number above 0 has one, and what is at least 2 to the i has one of at least i.
use Prim.Native.Nat.{ℕ, zero, suc, ◌+◌, ◌^◌, ◌≤◌, ◌<◌}
use native.Mathlib.Omega.{arith}
use native.Mathlib.Numerals.{add-one}
use native.Mathlib.Decide.{dec_le}
use native.Mathlib.Nat.{pow-suc}
use lib.Pow.{pow_pos, pow_mono}
use Rattle.spines.specs.FloorLog.{FloorLog}

pub log_least : (i x k : ℕ) → 2 ^ i ≤ x → FloorLog x k → i ≤ k
log_least i x k h f = pick (dec_le i k)
  where
    pick : Dec (i ≤ k) → i ≤ k
    pick (yes e) = e
    pick (no m) = let e : k + 1 ≤ i = omega arith in absurd (omega (arith, f.most, pow_mono e))

pub log_some : (x : ℕ) → 0 < x → (k : ℕ) × FloorLog x k
log_some x z = up_from x (high x)
  where
    high : (x : ℕ) → x < 2 ^ x
    high zero = pow_pos 0
    high (suc x) = omega (arith, high x, pow-suc 2 x)

    up_from : (m : ℕ) → x < 2 ^ m → (k : ℕ) × FloorLog x k
    up_from zero h = absurd (omega arith)
    up_from (suc m) h = pick (dec_le (2 ^ m) x) (up_from m)
      where
        pick : Dec (2 ^ m ≤ x) → (x < 2 ^ m → (k : ℕ) × FloorLog x k) → (k : ℕ) × FloorLog x k
        pick (yes e) ih = (m, record { least = e; most = rw (add-one m) h })
        pick (no q) ih = ih (omega arith)
