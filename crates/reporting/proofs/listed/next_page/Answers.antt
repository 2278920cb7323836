-- `next_page`: what follows the page's last row is what the next begins with, and that has a row.
use Prim.Native.Nat.{ℕ}
use mathlib.Core.Path.{ap}
use native.Mathlib.Omega.{arith}
use lib.ListN.{length, length-take, length-replicate}
use mir.Syntax.{w64}
use mir.ValLaws.{to_z-of_z}
use Rattle.reporting.proofs.Whole.{marks_free}
use Rattle.reporting.proofs.Steps.{going_some, going_few, going_row, going_inside, going_ready, page_some, page_going}
use Rattle.reporting.proofs.listed.next_page.Goals as goal

pub overflow_sub-m : goal.overflow_sub-m
overflow_sub-m c = omega (arith, going_some c.requires.3)

pub overflow_sub-i : goal.overflow_sub-i
overflow_sub-i c =
    let pre = c.requires in
    omega (arith, going_row pre.3 pre.2)

pub overflow_mul-i : goal.overflow_mul-i
overflow_mul-i c = omega (arith, going_inside c.requires.3)

pub two-low-requires : goal.two-low-requires
two-low-requires c =
    let pre = c.requires in
    omega (arith, going_row pre.3 pre.2, going_inside pre.3)

pub overflow_add-i : goal.overflow_add-i
overflow_add-i c =
    let pre = c.requires in
    omega (arith, going_inside pre.3)

pub two-high-requires : goal.two-high-requires
two-high-requires c =
    let pre = c.requires in
    omega (arith, going_row pre.3 pre.2, going_inside pre.3)

pub slice_bounds-ask-end : goal.slice_bounds-ask-end
slice_bounds-ask-end c =
    let pre = c.requires in
    simp length-take (omega (arith, ap length pre.0.free, length-replicate {A = ℕ} 4095 0, going_few pre.3))

pub ask-page-requires : goal.ask-page-requires
ask-page-requires c =
    let pre = c.requires in
    going_ready pre.3 (marks_free pre.0.free (going_few pre.3) (omega (arith, c.from-m.ensures))) pre.0.page

pub some_rows-requires : goal.some_rows-requires
some_rows-requires c =
    let pre = c.requires in
    let same = to_z-of_z w64 c.args.pairs.floor pre.3.fits in
    let free = marks_free pre.0.free (going_few pre.3) (omega (arith, c.from-m.ensures)) in
    let asked = rw same at c.ask-page.ensures in (
      pre.0.text,
      page_some pre.3 pre.1 pre.2 free c.two-low.ensures.0 c.two-high.ensures.0 asked,
      rw same (page_going pre.3 pre.1 pre.2 free c.two-low.ensures.0 c.two-high.ensures.0 asked),
    )
