-- `rings` meets its contract: a row found is the first closing one, and its ring has as many rows as were counted; none
-- found, no row closes one.
use mathlib.Core.Path.{refl}
use native.Mathlib.Omega.{arith}
use Rattle.tree.proofs.Begins.{fitting_readable, found_closing, rings_bad, rings_none}
use Rattle.tree.proofs.rings.Goals as goal

pub first_ring-row-requires : goal.first_ring-row-requires
first_ring-row-requires c =
    let pre = c.requires in
    rw c.from-rows.ensures (fitting_readable pre)

pub count_round-requires : goal.count_round-requires
count_round-requires c =
    let pre = c.requires in
    let e = c.from-rows.ensures in
    found_closing pre (rw e at c.first_ring-row.ensures) (omega (arith, e))

pub returns-then-row-rows : goal.returns-then-row-rows
returns-then-row-rows c =
    let first-ring-ensures = c.first_ring-row.ensures in
    let e = c.from-rows.ensures in
    rings_bad _ _ _ _ (rw e at first-ring-ensures) (omega (arith, e)) c.count_round.ensures

pub returns : goal.returns
returns c =
    let e = c.from-rows.ensures in
    rings_none _ _ _ (rw e at c.first_ring-row.ensures) (omega (arith, e)) refl
