-- `pages::raised` gives the floor's lift: 2^33 more than the floor, and 0 where that would be negative. A signed local
-- holds bits: `to_z-of_z` reads them back as the number.
use Prim.Native.Nat.{suc, ◌+◌, ◌-◌, ◌<◌}
use mathlib.Core.Path.{◌≡◌, sym, ◌∙◌}
use mathlib.Core.Bool.{true, false, true≢false, false≢true}
use native.Mathlib.Omega.{arith}
use borrow.Author.Tests.{ltb-true, ltb-false}
use lib.Dec.{T, leb-zero}
use lib.IntN.{ℤ, pos, negsuc, ◌+ℤ◌, nat_abs}
use lib.Signed.{le_z, lt_z, non_neg}
use mir.Syntax.{w64}
use mir.Val.{SFits, to_z, of_z}
use mir.ValLaws.{to_z-of_z}
use Rattle.table.specs.work.Diff.{up}
use Rattle.table.proofs.Lift.{diff, diff_only}
use Rattle.pages.specs.work.Lowered.{Raised}
use Rattle.pages.proofs.Lift.{raise, raised_is}
use Rattle.pages.proofs.raised.Goals.{Else-floor-lt-LEAST}
use Rattle.pages.proofs.raised.Goals as goal

-- not negative
pos_yes : (z : ℤ) → le_z (pos 0) z ≡ true → T (non_neg z)
pos_yes (pos n) h = tt
pos_yes (negsuc n) h = absurd (false≢true h)

pos_fits : (z : ℤ) → SFits w64 z → le_z (pos 0) z ≡ true → nat_abs z + 8589934592 < 18446744073709551616
pos_fits (pos n) f h = omega (arith, f.sfits)
pos_fits (negsuc n) f h = absurd (false≢true h)

pos_raised : (z : ℤ) → le_z (pos 0) z ≡ true → Raised z (nat_abs z + 8589934592)
unfolding raise
pos_raised (pos n) h = raised_is (pos n)
pos_raised (negsuc n) h = absurd (false≢true h)

-- negative
neg_zero : (z : ℤ) → le_z (pos 0) z ≡ false → lt_z z (negsuc 8589934591) ≡ true → Raised z 0
unfolding raise
neg_zero (pos n) h k = absurd (true≢false (sym (leb-zero n) ∙ h))
neg_zero (negsuc n) h k =
    let e : 8589934592 - suc n ≡ 0 = omega (arith, ltb-true 8589934591 n k) in
    rw e at (raised_is (negsuc n))

neg_sum : (z : ℤ) → le_z (pos 0) z ≡ false → lt_z z (negsuc 8589934591) ≡ false → z +ℤ pos 8589934592 ≡ pos (raise z)
unfolding raise
neg_sum (pos n) h k = absurd (true≢false (sym (leb-zero n) ∙ h))
neg_sum (negsuc n) h k =
    diff_only (diff 8589934592 (suc n)) (up (8589934592 - suc n) (omega (arith, ltb-false 8589934591 n k)))

neg_small : (z : ℤ) → le_z (pos 0) z ≡ false → raise z < 8589934592
unfolding raise
neg_small (pos n) h = absurd (true≢false (sym (leb-zero n) ∙ h))
neg_small (negsuc n) h = omega arith

module _ (c : Else-floor-lt-LEAST) where
  e : to_z w64 (of_z w64 c.args.floor) ≡ c.args.floor
  e = to_z-of_z w64 c.args.floor c.ranges.floor

  t : le_z (pos 0) c.args.floor ≡ false
  t = rw e at c.if-floor-ge0.false

  s : lt_z c.args.floor (negsuc 8589934591) ≡ false
  s = rw e at c.if-floor-lt-LEAST.false

  sum : c.args.floor +ℤ pos 8589934592 ≡ pos (raise c.args.floor)
  sum = neg_sum c.args.floor t s

  small : SFits w64 (pos (raise c.args.floor))
  small = record { sfits = omega (arith, neg_small c.args.floor t) }

  back : to_z w64 (of_z w64 (pos (raise c.args.floor))) ≡ pos (raise c.args.floor)
  back = to_z-of_z w64 (pos (raise c.args.floor)) small

pub overflow_cast-result : goal.overflow_cast-result
overflow_cast-result c =
    let args = c.args in
    let the-fits = c.ranges in
    let e = to_z-of_z w64 args.floor the-fits.floor in
    let t : le_z (pos 0) args.floor ≡ true = rw e at c.if-floor-ge0.true in
    rw e (pos_yes args.floor t, record { fits = omega (arith, pos_fits args.floor the-fits.floor t) })

pub overflow_add-result : goal.overflow_add-result
overflow_add-result c =
    let e = to_z-of_z w64 c.args.floor c.ranges.floor in
    let t : le_z (pos 0) c.args.floor ≡ true = rw e at c.if-floor-ge0.true in
    rw e (record { fits = pos_fits c.args.floor c.ranges.floor t })

pub returns-then-floor-ge0 : goal.returns-then-floor-ge0
returns-then-floor-ge0 c =
    let e = to_z-of_z w64 c.args.floor c.ranges.floor in
    let t : le_z (pos 0) c.args.floor ≡ true = rw e at c.if-floor-ge0.true in
    rw e (pos_raised c.args.floor t)

pub returns-then-floor-lt-LEAST : goal.returns-then-floor-lt-LEAST
returns-then-floor-lt-LEAST c =
    let e = to_z-of_z w64 c.args.floor c.ranges.floor in
    let t : le_z (pos 0) c.args.floor ≡ false = rw e at c.if-floor-ge0.false in
    let s : lt_z c.args.floor (negsuc 8589934591) ≡ true = rw e at c.if-floor-lt-LEAST.true in
    neg_zero c.args.floor t s

pub overflow_add-result-2 : goal.overflow_add-result-2
overflow_add-result-2 c = rw (e c, sum c) (small c)

pub overflow_cast-result-2 : goal.overflow_cast-result-2
overflow_cast-result-2 c =
    rw (e c, sum c, back c) (tt, record { fits = omega (arith, neg_small c.args.floor (t c)) })

pub returns : goal.returns
returns c = rw (e c, sum c, back c) (raised_is c.args.floor)
