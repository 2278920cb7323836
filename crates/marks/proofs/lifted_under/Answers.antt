-- `marks::lifted_under` meets its contract: a marked row's lift is the lesser of its own and 1,000,000; past the last
-- mark nothing is marked.
use lib.ListN.{get_or-eq_default}
use mathlib.Core.Path.{refl}
use native.Mathlib.Omega.{arith}
use Rattle.marks.proofs.lifted_under.Goals.{
  else-row-marks-via-then-row-marks+else-marks-row-ne-FREE,
  else-row-marks-via-else-row-marks,
}
use Rattle.marks.proofs.lifted_under.Goals as goal

-- marked
pub returns-then-marks-row-ne-FREE : goal.returns-then-marks-row-ne-FREE
returns-then-marks-row-ne-FREE c =
    record {
      lift = _;
      own = c.lifted_at-own.ensures;
      free = λ e. absurd (c.if-marks-row-ne-FREE.true e);
      marked = λ _. c.min.ensures;
    }

-- free, or past the last mark
pub returns : goal.returns
returns c =
    let marks = c.args.marks.now in
    record {
      lift = _;
      own = c.lifted_at-own.ensures;
      free = λ _. refl;
      marked = λ m. elim c.else-row-marks.branch [
        | else-row-marks-via-then-row-marks+else-marks-row-ne-FREE w ↦ absurd (m w.if-marks-row-ne-FREE.false)
        | else-row-marks-via-else-row-marks w ↦ absurd (m (get_or-eq_default marks 0 (omega (
          arith,
          w.if-row-marks.false,
        ))))
      ];
    }
