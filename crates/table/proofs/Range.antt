-- A weight's range: which numbers lie in it, as the code tests it; and that the sum of such a weight with 1,000,000 is
-- a natural number, its lift, as the code makes it.
use mathlib.Core.Path.{◌≡◌, refl, ap, ◌∙◌}
use mathlib.Core.Bool.{true, false}
use Prim.Native.Nat.{ℕ, suc, ◌+◌, ◌-◌, ◌≤◌}
use native.Mathlib.Decide.{dec_le}
use native.Mathlib.Omega.{arith}
use lib.Dec.{T, leb→le, le→leb}
use lib.IntN.{ℤ, pos, negsuc, ◌+ℤ◌, nat_abs}
use lib.Signed.{lt_z, lt_z_yes, lt_z_no, clash_ℤ, non_neg}
use mir.Syntax.{w32}
use mir.Val.{to_z, of_z, SFits, Fits}
use mir.ValLaws.{to_z-of_z}
use borrow.Author.Tests.{le-ltb}
use Rattle.table.specs.Signed.{InRange}
use Rattle.table.specs.work.Diff.{Diff, up, down}
use Rattle.table.specs.work.Lift.{row_lift}

pub up_within : (n : ℕ) → n ≤ 1000000 → InRange (pos n)
up_within n h = (record { le = tt }, record { le = le→leb n 1000000 h })

pub down_within : (n : ℕ) → n ≤ 999999 → InRange (negsuc n)
down_within n h = (record { le = le→leb n 999999 h }, record { le = tt })

pub within? : (z : ℤ) → Dec (InRange z)
within? (pos n) = pick (dec_le n 1000000)
  where
    pick : Dec (n ≤ 1000000) → Dec (InRange (pos n))
    pick (yes h) = yes (up_within n h)
    pick (no h) = no (λ w. h (leb→le n 1000000 w.1.le))
within? (negsuc n) = pick (dec_le n 999999)
  where
    pick : Dec (n ≤ 999999) → Dec (InRange (negsuc n))
    pick (yes h) = yes (down_within n h)
    pick (no h) = no (λ w. h (leb→le n 999999 w.0.le))

-- as the code tests it
module _ {z : ℤ} where
  pub too_low : lt_z z (negsuc 999999) ≡ true → InRange z → ⊥
  too_low e w = clash_ℤ (lt_z_yes (rw e tt)) w.0

  pub too_high : lt_z (pos 1000000) z ≡ true → InRange z → ⊥
  too_high e w = clash_ℤ (lt_z_yes (rw e tt)) w.1

  pub in_range : lt_z z (negsuc 999999) ≡ false → lt_z (pos 1000000) z ≡ false → InRange z
  in_range e f = (lt_z_no (rw e tt), lt_z_no (rw f tt))

-- z plus 1,000,000, in signed arithmetic, is the natural number that lifts it
record Lifts (z : ℤ) (q : ℕ) : Type 0 where
  sum : z +ℤ pos row_lift ≡ pos q
  diff : Diff q row_lift z
  small : q ≤ 2000000

lifts : (z : ℤ) → InRange z → (q : ℕ) × Lifts z q
lifts (pos n) h =
    let l = leb→le n 1000000 h.1.le in
    (n + row_lift, record { sum = refl; diff = up n (omega arith); small = omega arith })
lifts (negsuc n) h =
    let l = leb→le n 999999 h.0.le in (
      row_lift - suc n,
      record {
        sum = rw (le-ltb row_lift (suc n) (omega arith)) refl;
        diff = down n (omega arith);
        small = omega arith;
      },
    )

-- z plus 1,000,000 or somewhat more is a small natural number
small_sum : (z : ℤ) → InRange z → (k : ℕ) → row_lift ≤ k → k ≤ 2000000
    → (q : ℕ) × (z +ℤ pos k ≡ pos q) × (q ≤ 3000000)
small_sum (pos n) h k l m =
    let b = leb→le n 1000000 h.1.le in
    (n + k, refl, omega arith)
small_sum (negsuc n) h k l m =
    let b = leb→le n 999999 h.0.le in
    (k - suc n, rw (le-ltb k (suc n) (omega arith)) refl, omega arith)

-- as the code adds and casts it; y is the weight as its bits are read back
module _ {y z : ℤ} (e : y ≡ z) (w : InRange z) where
  abbrev raised : ℤ
  raised = y +ℤ pos row_lift

  abbrev read : ℤ
  read = to_z w32 (of_z w32 raised)

  abbrev q : ℕ
  q = (lifts z w).0

  raised_is : raised ≡ pos q
  raised_is = ap (λ (x : ℤ). x +ℤ pos row_lift) e ∙ (lifts z w).1.sum

  sum_is : (k : ℕ) (l : row_lift ≤ k) (m : k ≤ 2000000) → y +ℤ pos k ≡ pos ((small_sum z w k l m).0)
  sum_is k l m = ap (λ (x : ℤ). x +ℤ pos k) e ∙ (small_sum z w k l m).1

  pub lift_fits : (k : ℕ) → row_lift ≤ k → k ≤ 2000000 → SFits w32 (y +ℤ pos k)
  lift_fits k l m = rw (sum_is k l m) (record { sfits = omega (arith, (small_sum z w k l m).2) })

  read_is : read ≡ pos q
  read_is = to_z-of_z w32 raised (lift_fits row_lift (omega arith) (omega arith)) ∙ raised_is

  sum_read : (k : ℕ) (l : row_lift ≤ k) (m : k ≤ 2000000)
      → to_z w32 (of_z w32 (y +ℤ pos k)) ≡ pos ((small_sum z w k l m).0)
  sum_read k l m = to_z-of_z w32 (y +ℤ pos k) (lift_fits k l m) ∙ sum_is k l m

  pub lift_casts : (k : ℕ) → row_lift ≤ k → k ≤ 2000000
      → T (non_neg (to_z w32 (of_z w32 (y +ℤ pos k)))) × Fits w32 (nat_abs (to_z w32 (of_z w32 (y +ℤ pos k))))
  lift_casts k l m = rw (sum_read k l m) (tt, record { fits = omega (arith, (small_sum z w k l m).2) })

  pub lift_diff : Diff (nat_abs read) row_lift z
  lift_diff = rw read_is (lifts z w).1.diff

  pub lift_small : nat_abs read ≤ 2000000
  lift_small = rw read_is (lifts z w).1.small
