-- `some_rows`: the lines of the page's next rows are what comes next.
use mathlib.Core.Path.{refl}
use native.Mathlib.Omega.{arith}
use mir.Syntax.{w64}
use mir.ValLaws.{to_z-of_z}
use Rattle.reporting.proofs.Steps.{rows_shown, going_inside}
use Rattle.reporting.proofs.listed.some_rows.Goals as goal

pub pairs-n-requires : goal.pairs-n-requires
pairs-n-requires c = (omega arith, omega (arith, going_inside c.requires.2), omega arith)

pub returns : goal.returns
returns c =
    let pre = c.requires in (
      rw (to_z-of_z w64 c.args.pairs.floor pre.2.fits)
          (rows_shown pre.2 (omega (arith, c.min.ensures, pre.1)) (omega (arith, c.min.ensures, pre.1))
          c.pairs-n.ensures.0),
      refl,
    )
