-- What a lifted number means: `Diff a b z` says that z is a − b, so a lifted number is one side of it. Sums correspond,
-- order is kept both ways, and a number has one difference. Nearly every law is a case by case sum of naturals.
use mathlib.Core.Path.{◌≡◌, ap}
use Prim.Native.Nat.{ℕ, suc, ◌+◌, ◌-◌, ◌≤◌, ◌<◌}
use native.Mathlib.Decide.{dec_lt}
use native.Mathlib.Omega.{arith}
use lib.Dec.{leb→le, le→leb}
use lib.IntN.{ℤ, pos, negsuc, sub_ℕ, ◌+ℤ◌}
use lib.Signed.{◌≤ℤ◌}
use borrow.Author.Tests.{lt-ltb, le-ltb}
use Rattle.table.specs.work.Diff.{Diff, up, down}

-- every difference is one
pub diff : (a b : ℕ) → Diff a b (sub_ℕ a b)
diff a b = pick (dec_lt a b)
  where
    pick : Dec (a < b) → Diff a b (sub_ℕ a b)
    pick (yes h) = rw (lt-ltb a b h) (down (b - suc a) (omega arith))
    pick (no h) = let k : b ≤ a = omega arith in rw (le-ltb a b k) (up (a - b) (omega arith))

-- the same difference, of other sides
pub same : {a b c d : ℕ} {z : ℤ} → a + d ≡ c + b → Diff a b z → Diff c d z
same e (up n h) = up n (omega arith)
same e (down n h) = down n (omega arith)

-- of an equal number
pub equally : {a b : ℕ} {y z : ℤ} → y ≡ z → Diff a b z → Diff a b y
equally e h = rw e h

-- one signed number only
pub diff_only : {a b : ℕ} {y z : ℤ} → Diff a b y → Diff a b z → y ≡ z
diff_only (up m h) (up n k) = ap pos (omega arith)
diff_only (up m h) (down n k) = absurd (omega arith)
diff_only (down m h) (up n k) = absurd (omega arith)
diff_only (down m h) (down n k) = ap negsuc (omega arith)

-- one lifted number only
pub lift_only : {a c b : ℕ} {z : ℤ} → Diff a b z → Diff c b z → a ≡ c
lift_only (up n h) (up _ k) = omega arith
lift_only (down n h) (down _ k) = omega arith

-- sums correspond
pub sum : {a b c d : ℕ} {y z : ℤ} → Diff a b y → Diff c d z → Diff (a + c) (b + d) (y +ℤ z)
sum (up m h) (up n k) = up (m + n) (omega arith)
sum (up m h) (down n k) = same (omega arith) (diff m (suc n))
sum (down m h) (up n k) = same (omega arith) (diff n (suc m))
sum (down m h) (down n k) = down (suc (m + n)) (omega arith)

-- order is kept, both ways
pub order : {a b c d : ℕ} {y z : ℤ} → Diff a b y → Diff c d z → y ≤ℤ z → a + d ≤ c + b
order (up m h) (up n k) o = omega (arith, leb→le m n o.le)
order (up m h) (down n k) o = absurd o.le
order (down m h) (up n k) o = omega arith
order (down m h) (down n k) o = omega (arith, leb→le n m o.le)

pub order_back : {a b c d : ℕ} {y z : ℤ} → Diff a b y → Diff c d z → a + d ≤ c + b → y ≤ℤ z
order_back (up m h) (up n k) o = record { le = le→leb m n (omega arith) }
order_back (up m h) (down n k) o = absurd (omega arith)
order_back (down m h) (up n k) o = record { le = tt }
order_back (down m h) (down n k) o = record { le = le→leb n m (omega arith) }
