-- `lined`: once the first page is asked for, the whole report is known, from the outcomes of acceptance, heaviest and
-- that page; its first two lines come next.
use mathlib.Core.Path.{refl}
use native.Mathlib.Omega.{arith}
use mir.Syntax.{w64}
use mir.ValLaws.{to_z-of_z}
use Rattle.ground.proofs.Bounds.{passes_fits}
use Rattle.heaviest.proofs.Demand2.{found_best}
use Rattle.reporting.proofs.Whole.{ready_free, bits_say, lined_shown}
use Rattle.reporting.proofs.begun.lined.Goals as goal

pub ask-page-requires : goal.ask-page-requires
ask-page-requires c = ready_free c.requires.0 c.requires.1 c.requires.3

pub overflow_add-pairs : goal.overflow_add-pairs
overflow_add-pairs c = omega (arith, c.ask-page.ensures.few)

pub returns : goal.returns
returns c =
    let best = c.args.best in
    let pre = c.requires in
    let ask = c.ask-page.ensures in
    let fits = (passes_fits _ _ ask.net (found_best _ _ pre.2).one).weight in
    let same = to_z-of_z w64 best.weight fits in (
      rw same
          (lined_shown c.args.net.nodes c.args.net.bound best.low best.high best.length c.bits_of-bits.result
          best.weight pre.0 (rw pre.1 at pre.2) (rw (pre.1, same) at ask)
          (omega (arith, c.from-2.ensures, c.from-2.type_inv)) fits
          (bits_say best.weight c.bits_of-bits.ensures fits)
          (rw (c.from.ensures, c.from-2.ensures, c.from-3.ensures, c.from-4.ensures, c.from-5.ensures)
          at c.top-n.ensures.0)),
      refl,
    )
