-- `pages::capped` gives one more than the ceiling's lift, and 0 where the ceiling has none. The lift is what `raised`
-- gives of it: the least that stands for the ceiling or more stands for the ceiling itself.
use Prim.Native.Nat.{ℕ, suc, ◌+◌, ◌-◌, ◌<◌}
use mathlib.Core.Path.{◌≡◌}
use mathlib.Core.Bool.{true, false, true≢false}
use native.Mathlib.Omega.{arith}
use borrow.Author.Tests.{leb-true, leb-false}
use lib.IntN.{ℤ, pos, negsuc}
use lib.Signed.{le_z}
use mir.Syntax.{w64}
use mir.Val.{SFits}
use mir.ValLaws.{to_z-of_z}
use Rattle.table.specs.work.Diff.{Diff, up, down}
use Rattle.pages.specs.work.Lowered.{Raised, Capped}
use Rattle.pages.proofs.Lift.{raise, raised_is, capped_after, capped_none}
use Rattle.pages.proofs.Only.{raised_only}
use Rattle.pages.proofs.capped.Goals.{After-raised-r}
use Rattle.pages.proofs.capped.Goals as goal

too_low : (z : ℤ) → le_z (negsuc 8589934591) z ≡ false → Capped z 0
too_low (pos n) h = absurd (true≢false h)
too_low (negsuc n) h = capped_none {n = suc n} (omega (arith, leb-false n 8589934591 h)) (down n (omega arith))

-- what `raised` gives of a ceiling that can be lifted is its lift, and one more fits
lift_is : (z : ℤ) (r : ℕ) → le_z (negsuc 8589934591) z ≡ true → Raised z r → Diff r 8589934592 z
unfolding raise
lift_is (pos n) r h k =
    let e = raised_only (pos n) r (n + 8589934592) k (raised_is (pos n)) in
    up n (omega arith)
lift_is (negsuc n) r h k =
    let e = raised_only (negsuc n) r (8589934592 - suc n) k (raised_is (negsuc n)) in
    down n (omega (arith, leb-true n 8589934591 h))

lift_fits : (z : ℤ) (r : ℕ) → SFits w64 z → Diff r 8589934592 z → r + 1 < 18446744073709551616
lift_fits (pos n) r f (up _ e) = omega (arith, f.sfits)
lift_fits (negsuc n) r f (down _ e) = omega (arith)

-- where the ceiling can be lifted
lifted : (c : After-raised-r) → Diff c.raised-r.result 8589934592 c.args.ceiling
lifted c =
    let args = c.args in
    let e = to_z-of_z w64 args.ceiling c.ranges.ceiling in
    lift_is args.ceiling c.raised-r.result (rw e at c.if-ceiling-ge-LEAST.true) (rw e at c.raised-r.ensures)

pub overflow_add-result : goal.overflow_add-result
overflow_add-result c =
    record { fits = omega (arith, lift_fits c.args.ceiling _ c.ranges.ceiling (lifted c)) }

pub returns-then-ceiling-ge-LEAST : goal.returns-then-ceiling-ge-LEAST
returns-then-ceiling-ge-LEAST c = capped_after (lifted c)

pub returns : goal.returns
returns c =
    let e = to_z-of_z w64 c.args.ceiling c.ranges.ceiling in
    too_low c.args.ceiling (rw e at c.if-ceiling-ge-LEAST.false)
