-- `convert::too_high` meets its contract: the top bit and the run tell the old marks that read as they did.
use Prim.Native.Nat.{◌<◌}
use native.Mathlib.Omega.{arith}
use borrow.Author.Tests.{eqb-true, eqb-false}
use Rattle.marks.specs.Mark.{top, unknown}
use Rattle.marks.proofs.Readings.{told_unspent}
use Rattle.convert.proofs.Readings.{held_on}
use Rattle.convert.proofs.too_high.Goals as goal

pub returns-else-is_spent : goal.returns-else-is_spent
returns-else-is_spent c =
    let run = c.run_of-else-is_spent in
    let l : c.args.mark < top = told_unspent c.is_spent.ensures c.if-is_spent.false in (
      λ t. omega (arith, l, eqb-true run.result unknown t, run.ensures),
      λ t. held_on l (λ e. omega (arith, eqb-false run.result unknown t, run.ensures, e)),
    )
