-- How far a signed number is from 0: a difference no farther than its two sides, a sum no farther than both parts, a
-- weight in its range no farther than 1,000,000.
use Prim.Native.Nat.{ℕ, suc, ◌+◌, ◌≤◌}
use native.Mathlib.Omega.{arith}
use lib.Dec.{leb→le}
use lib.IntN.{ℤ, pos, negsuc, ◌+ℤ◌, nat_abs}
use Rattle.table.specs.work.Diff.{Diff, up, down}
use Rattle.table.specs.Signed.{InRange}
use Rattle.table.proofs.Lift.{diff}

diff_near : {a b : ℕ} {z : ℤ} → Diff a b z → nat_abs z ≤ a + b
diff_near (up n h) = omega arith
diff_near (down n h) = omega arith

pub sum_near : (y z : ℤ) → nat_abs (y +ℤ z) ≤ nat_abs y + nat_abs z
sum_near (pos a) (pos b) = omega arith
sum_near (pos a) (negsuc b) = diff_near (diff a (suc b))
sum_near (negsuc a) (pos b) = omega (arith, diff_near (diff b (suc a)))
sum_near (negsuc a) (negsuc b) = omega arith

pub within_near : (z : ℤ) → InRange z → nat_abs z ≤ 1000000
within_near (pos n) h = leb→le n 1000000 h.1.le
within_near (negsuc n) h = omega (arith, leb→le n 999999 h.0.le)
