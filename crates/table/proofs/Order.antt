-- The order of signed numbers goes on from one to the next, and sums keep it: read off the order of naturals, each
-- number as a difference of two.
use Prim.Native.Nat.{ℕ, suc}
use native.Mathlib.Omega.{arith}
use lib.IntN.{ℤ, pos, negsuc, ◌+ℤ◌}
use lib.Signed.{◌≤ℤ◌}
use Rattle.table.specs.work.Diff.{Diff, up, down}
use Rattle.table.proofs.Lift.{sum, order, order_back}

sides : (z : ℤ) → (a : ℕ) × (b : ℕ) × Diff a b z
sides (pos n) = (n, 0, up n (omega arith))
sides (negsuc n) = (0, suc n, down n (omega arith))

pub ≤ℤ-trans : {x y z : ℤ} → x ≤ℤ y → y ≤ℤ z → x ≤ℤ z
≤ℤ-trans {x} {y} {z} h k =
    let a = (sides x).2 in
    let b = (sides y).2 in
    let c = (sides z).2 in
    order_back a c (omega (arith, order a b h, order b c k))

pub sums_keep : {w x y z : ℤ} → w ≤ℤ x → y ≤ℤ z → (w +ℤ y) ≤ℤ (x +ℤ z)
sums_keep {w} {x} {y} {z} h k =
    let a = (sides w).2 in
    let b = (sides x).2 in
    let c = (sides y).2 in
    let d = (sides z).2 in
    order_back (sum a c) (sum b d) (omega (arith, order a b h, order c d k))
