-- `window::scan::page` walks the net, reads the branches and finds the greatest count of all pairs in the window; where
-- there is none the page is empty, else it is the scan's with that count as its limit.
use mathlib.Core.Path.{◌≡◌, refl}
use mathlib.Core.Bool.{true}
use mathlib.Core.Logic.{◌≢◌}
use native.Mathlib.Omega.{arith}
use Rattle.arrays.proofs.Fills.{filled}
use Rattle.paths.proofs.Fresh.{fresh}
use Rattle.window.specs.Window.{Window, InWindow}
use Rattle.window.specs.work.Asked.{window_asked}
use Rattle.window.specs.work.Best.{BestOf}
use Rattle.window.proofs.Counting.{counted, both}
use Rattle.window.proofs.FromBest.{window_best, all_hit, list_none, list_page}
use Rattle.window.proofs.scan.page.Goals.{After-best-b}
use Rattle.window.proofs.scan.page.Goals as goal

-- after the search: what was found is the best pair of the window
module _ (c : After-best-b) where
  abbrev asked : Window
  asked = window_asked c.args.asked

  n_is : c.from-n.result ≡ c.args.nodes
  n_is = c.from-n.ensures

  best_is : BestOf (InWindow c.args.s.now c.args.marks.now c.args.nodes asked) c.best-b.result
  best_is =
      window_best (omega arith) n_is c.grounded.ensures (filled 4096 1) c.counts-counts.ensures.0
      c.counts-counts.ensures.1 c.sums-sums.ensures.0 c.sums-sums.ensures.1 c.best-b.ensures.0

pub best-b-requires : goal.best-b-requires
best-b-requires c =
    let from-ensures = c.from-n.ensures in
    let grounded-ensures = c.grounded.ensures in (
      rw from-ensures (counted grounded-ensures (filled 4096 1)),
      record { flags = grounded-ensures.walked.long.1; lengths = fresh.lengths; weights = fresh.weights },
    )

pub returns-then-b-eq0 : goal.returns-then-b-eq0
returns-then-b-eq0 c =
    let here = (goal.at.returns-then-b-eq0 c).After-best-b in
    list_none _ _ (asked here) c.requires.0 (best_is here) c.requires.1 (omega arith)

pub firsts-requires : goal.firsts-requires
firsts-requires c =
    let here = (goal.at.firsts-requires c).After-best-b in
    let grounded-ensures = c.grounded.ensures in
    let if1-left = c.if-b-eq0.false in
    let m : c.best-b.result.count ≢ 0 = omega (arith, if1-left) in (
      rw (n_is here) (both grounded-ensures (filled 4096 1)),
      c.best-b.ensures.1,
      all_hit (record { most = c.best-b.result.count; exact = true }) (omega arith) m c.best-b.ensures.0
          (λ k h. h),
    )

pub returns : goal.returns
returns c =
    let here = (goal.at.returns c).After-best-b in
    let from3-ensures = c.from.ensures in
    let from2-ensures = c.from-from.ensures in
    let if1-left = c.if-b-eq0.false in
    let m : c.best-b.result.count ≢ 0 = omega (arith, if1-left) in
    list_page _ _ (asked here) (record { most = c.best-b.result.count; exact = true }) (n_is here) (best_is here) m
    c.grounded.ensures (filled 4096 1) c.sums-sums.ensures.0 c.sums-sums.ensures.1 (λ k h. h)
    refl (rw (from2-ensures, from3-ensures) at c.firsts.ensures)
