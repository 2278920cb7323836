-- `table::lowered` meets its contract: below 2^33 the number is -1 - (2^33 - 1 - x), from there on x - 2^33.
use mir.Syntax.{w64}
use mir.ValLaws.{to_z_pos}
use Rattle.table.specs.work.Diff.{up, down}
use Rattle.table.proofs.Bits.{minus_is}
use Prim.Native.Nat.{◌-◌}
use native.Mathlib.Omega.{arith}
use Rattle.table.proofs.lowered.Goals as goal

pub returns-then-x-lt-SUM_LIFT : goal.returns-then-x-lt-SUM_LIFT
returns-then-x-lt-SUM_LIFT c =
    let args = c.args in
    record {
      back = λ h. rw (minus_is w64 (8589934591 - args.x) (omega arith)) (down (8589934591 - args.x) (omega arith));
      none = λ h. absurd (omega arith);
    }

pub returns : goal.returns
returns c =
    let args = c.args in
    record {
      back = λ h. rw (to_z_pos w64 (args.x - 8589934592) (omega arith)) (up (args.x - 8589934592) (omega arith));
      none = λ h. absurd (omega arith);
    }
