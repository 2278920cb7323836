-- `bounded` compares the number that `field` read (proofs/Bounds).
use native.Mathlib.Omega.{arith}
use Rattle.roads.proofs.Bounds.{no_field, in_bounds, out_of_bounds}
use Rattle.roads.proofs.number.bounded.Goals as goal

pub returns-in_err-number : goal.returns-in_err-number
returns-in_err-number c = rw c.from_residual.ensures (no_field c.in_err-number.ensures)

pub returns-then-number-low : goal.returns-then-number-low
returns-then-number-low c =
    out_of_bounds (omega arith) (omega arith) c.in_ok-number.ensures (λ lo hi. omega arith)

pub returns : goal.returns
returns c = in_bounds (omega arith) c.in_ok-number.ensures (omega arith) (omega arith)
