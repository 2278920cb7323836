-- `begin`: the marks are as many free branches as the net has, and what acceptance and heaviest refuse is the report's.
use Prim.Native.Nat.{ℕ}
use mathlib.Core.Path.{ap}
use native.Mathlib.Omega.{arith}
use lib.ListN.{length, length-take, length-replicate}
use Rattle.std.proofs.lemmas.Result.{err_from_is_err_and}
use Rattle.tree.proofs.Begins.{admitted}
use Rattle.reporting.proofs.Whole.{marks_free, refused_rest, none_rest}
use Rattle.reporting.proofs.begun.begin.Goals as goal

pub returns-in_err-net : goal.returns-in_err-net
returns-in_err-net c =
    let p = err_from_is_err_and c.from_residual.result c.from_residual.ensures.1 in
    rw (p.1, p.2) (refused_rest _ _ _ _ (omega arith) (omega arith) (omega arith) c.in_err-net.ensures)

pub overflow_sub-n : goal.overflow_sub-n
overflow_sub-n c = omega (arith, (admitted _ _ _ c.in_ok-net.ensures).net.some)

pub slice_bounds-marks-end : goal.slice_bounds-marks-end
slice_bounds-marks-end c =
    simp length-take
    (omega (
      arith,
      ap length c.requires.free,
      length-replicate {A = ℕ} 4095 0,
      (admitted _ _ _ c.in_ok-net.ensures).net.few,
    ))

pub returns-in_err-best : goal.returns-in_err-best
returns-in_err-best c =
    let p = err_from_is_err_and c.from_residual-in_err-best.result c.from_residual-in_err-best.ensures.1 in
    let a = c.in_ok-net.ensures in
    rw (p.1, p.2)
    (none_rest _ _ _ _ (omega arith) (omega arith) (omega arith) _ _ _ a
    (marks_free c.requires.free (admitted _ _ _ a).net.few (omega (arith, c.from-n.ensures))) c.in_err-best.ensures)

pub lined-requires : goal.lined-requires
lined-requires c =
    let a = c.in_ok-net.ensures in (
      a,
      marks_free c.requires.free (admitted _ _ _ a).net.few (omega (arith, c.from-n.ensures)),
      c.in_ok-best.ensures,
      c.requires.page,
      c.requires.text,
    )

pub returns : goal.returns
returns c = c.lined.ensures
