-- The lift: x stands for x − 2^33. What the floor's lift is, where the lifts up to a ceiling end, which lifts pass by
-- the two, and the 64 bits of what x stands for.
use Prim.Native.Nat.{ℕ, suc, ◌+◌, ◌-◌, ◌%◌, ◌<◌}
use mathlib.Core.Path.{◌≡◌}
use native.Mathlib.Omega.{arith}
use native.Mathlib.Decide.{dec_lt}
use lib.IntN.{ℤ, pos, negsuc}
use lib.Signed.{◌≤ℤ◌}
use mir.Syntax.{w64}
use mir.Val.{of_z}
use Rattle.table.specs.work.Diff.{Diff, up, down}
use Rattle.table.proofs.Lift.{diff, order, order_back}
use Rattle.table.specs.work.Lift.{sum_end}
use Rattle.pages.specs.declared.Sums.{Sums}
use Rattle.pages.specs.work.Lowered.{lower, Raised, Capped, Weighs}

pub lower_is : (x : ℕ) → Diff x 8589934592 (lower x)
unfolding lower
lower_is x = diff x 8589934592

-- the least x that stands for z or more
unfoldable pub raise : ℤ → ℕ
raise (pos n) = n + 8589934592
raise (negsuc n) = 8589934592 - suc n

same_lift : {z : ℤ} {r : ℕ} → Diff r 8589934592 z → Raised z r
same_lift d =
    record { enough = λ x w e h. order_back d e (omega arith); needed = λ x w e h. omega (arith, order d e h) }

pub raised_is : (z : ℤ) → Raised z (raise z)
unfolding raise
raised_is (pos n) = same_lift (up n (omega arith))
raised_is (negsuc n) = pick (dec_lt n 8589934592)
  where
    pick : Dec (n < 8589934592) → Raised (negsuc n) (8589934592 - suc n)
    pick (yes h) = same_lift (down n (omega arith))
    pick (no h) =
        let below : Diff 0 (suc n) (negsuc n) = down n (omega arith) in
        record { enough = λ x w e k. order_back below e (omega arith); needed = λ x w e k. omega arith }

pub bits_of : (x : ℕ) → x < 17179869184 → (x + 18446744065119617024) % 18446744073709551616 ≡ of_z w64 (lower x)
bits_of x h = at (lower x) (lower_is x)
  where
    at : (z : ℤ) → Diff x 8589934592 z → (x + 18446744065119617024) % 18446744073709551616 ≡ of_z w64 z
    at z (up n e) = omega arith
    at z (down n e) = omega arith

-- the ceiling's own lift is the last that passes
pub capped_after : {z : ℤ} {r : ℕ} → Diff r 8589934592 z → Capped z (r + 1)
capped_after d =
    record { enough = λ x w e h. order_back e d (omega arith); needed = λ x w e h. omega (arith, order e d h) }

-- no lift passes where the ceiling is below all that can be lifted
pub capped_none : {z : ℤ} {n : ℕ} → 8589934592 < n → Diff 0 n z → Capped z 0
capped_none h d =
    record { enough = λ x w e k. absurd (omega arith); needed = λ x w e k. absurd (omega (arith, order e d k)) }

-- from a floor on, and between a floor and a ceiling
pub weighs_from : {floor : ℤ} {sums : Sums} → Raised floor sums.floor → sums.end ≡ sum_end
    → Weighs (λ w. floor ≤ℤ w) sums
weighs_from r e =
    record { enough = λ x w d p. r.enough x w d p.0; needed = λ x w d b h. (r.needed x w d h, omega (arith, e)) }

pub weighs_between : {floor ceiling : ℤ} {sums : Sums} → Raised floor sums.floor → Capped ceiling sums.end
    → Weighs (λ w. (floor ≤ℤ w) × (w ≤ℤ ceiling)) sums
weighs_between r e =
    record {
      enough = λ x w d p. (r.enough x w d p.0, e.enough x w d p.1);
      needed = λ x w d b h. (r.needed x w d h.0, e.needed x w d h.1);
    }
