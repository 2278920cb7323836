-- `window::pick` meets its contract: 13 by the number of marks, 30 by the limits; 31 where the best pair's count is 0,
-- for then no pair is in the window; else the best pair's fields, its weight lowered.
use Prim.Native.Nat.{◌-◌}
use mathlib.Core.Path.{◌≡◌}
use mathlib.Core.Logic.{◌≢◌}
use native.Mathlib.Omega.{arith}
use lib.ListN.{length}
use mir.Syntax.{w64}
use mir.ValLaws.{to_z-of_z}
use Rattle.table.specs.Refuse.{refused, passed}
use Rattle.window.specs.Window.{Window, Proper, InWindow}
use Rattle.window.specs.work.Asked.{window_asked}
use Rattle.window.specs.work.Best.{BestOf}
use Rattle.window.proofs.FromBest.{none_inside, nodes_fit, count_fits, most_given}
use Rattle.window.proofs.pick.Goals.{After-search-b}
use Rattle.window.proofs.pick.Goals as goal

-- after the search: 13 and 30 are passed, and what was found is the best pair of the window that the arguments say
module _ (c : After-search-b) where
  abbrev asked : Window
  asked = window_asked c.args.asked

  marked : length c.args.marks.now ≡ c.args.nodes - 1
  marked = omega (arith, c.if-marks-n.false, c.from-n.ensures)

  well_put : Proper asked
  well_put = c.proper.ensures.0.holds c.if-not-proper.false

  best_is : BestOf (InWindow c.args.s.now c.args.marks.now c.args.nodes asked) c.search-b.result
  best_is = c.search-b.ensures

pub returns-then-marks-n : goal.returns-then-marks-n
returns-then-marks-n c = refused (λ h. c.if-marks-n.true (omega (arith, c.from-n.ensures)))

pub returns-then-not-proper : goal.returns-then-not-proper
returns-then-not-proper c =
    passed (omega (arith, c.if-marks-n.false, c.from-n.ensures))
    (refused (λ h. c.proper.ensures.0.fails c.if-not-proper.true h))

pub returns-then-b-eq0 : goal.returns-then-b-eq0
returns-then-b-eq0 c =
    let here = (goal.at.returns-then-b-eq0 c).After-search-b in
    let pre = c.requires in
    passed (marked here)
    (passed (well_put here) (refused (none_inside _ _ (asked here) pre (best_is here) (well_put here).positive
    (omega arith))))

pub overflow_cast-result : goal.overflow_cast-result
overflow_cast-result c =
    let here = (goal.at.overflow_cast-result c).After-search-b in
    omega (arith, nodes_fit _ _ (asked here) c.requires (best_is here) (omega arith))

pub overflow_cast-result-2 : goal.overflow_cast-result-2
overflow_cast-result-2 c =
    let here = (goal.at.overflow_cast-result-2 c).After-search-b in
    omega (arith, nodes_fit _ _ (asked here) c.requires (best_is here) (omega arith))

pub overflow_cast-result-3 : goal.overflow_cast-result-3
overflow_cast-result-3 c =
    let here = (goal.at.overflow_cast-result-3 c).After-search-b in
    omega (
      arith,
      count_fits _ _ (asked here) c.requires (best_is here) (omega arith),
      c.proper.ensures.1
          c.if-not-proper.false,
    )

pub returns : goal.returns
returns c =
    let here = (goal.at.returns c).After-search-b in
    let pre = c.requires in
    let m : c.search-b.result.count ≢ 0 = omega arith in
    let r = most_given _ _ (asked here) pre (best_is here) m _ c.lowered-weight.ensures in
    let g = to_z-of_z w64 c.lowered-weight.result (record { sfits = c.lowered-weight.type_inv }) in
    rw g (passed (marked here) (passed (well_put here) (passed (_, r.one) r)))
