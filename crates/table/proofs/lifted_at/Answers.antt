-- `table::lifted_at` meets its contract: where the test passes the weight is in its range, and there its sum with
-- 1,000,000 is a natural number, its lift (proofs/Range). A signed local holds bits: `is` reads them back as the
-- row's weight.
use mir.Syntax.{w32}
use mir.Val.{to_z, of_z}
use mir.ValLaws.{to_z-of_z}
use Rattle.table.specs.Signed.{InRange}
use Rattle.table.specs.Row.{Stands, weight_at}
use Rattle.table.proofs.Range.{lift_casts, lift_diff, lift_small}
use mathlib.Core.Path.{◌≡◌, ◌∙◌}
use native.Mathlib.Omega.{arith}
use Rattle.table.proofs.lifted_at.Goals.{After-weight_at-weight, Then-in_range, Then-stands}
use Rattle.table.proofs.lifted_at.Goals as goal

row_stands : (c : Then-stands) → Stands c.args.s.now c.args.row
row_stands c = c.stands.ensures.there c.if-stands.true

-- the weight read
is : (c : After-weight_at-weight)
    → to_z w32 (of_z w32 c.weight_at-weight.result) ≡ weight_at c.args.s.now c.args.row
is c = to_z-of_z w32 _ (record { sfits = c.weight_at-weight.type_inv }) ∙ c.weight_at-weight.ensures

within : (c : Then-in_range) → InRange (weight_at c.args.s.now c.args.row)
within c =
    rw (to_z-of_z w32 _ (record { sfits = c.weight_at-weight.type_inv }) ∙ c.weight_at-weight.ensures) at
    (c.in_range.ensures.0 c.if-in_range.true)

pub overflow_cast-result-then-in_range : goal.overflow_cast-result-then-in_range
overflow_cast-result-then-in_range c =
    let e = is (goal.at.overflow_cast-result-then-in_range c).After-weight_at-weight in
    lift_casts e (within c) _ (omega arith) (omega arith)

pub returns-then-in_range : goal.returns-then-in_range
returns-then-in_range c = record {
  lifts = λ _ _. lift_diff (is (goal.at.returns-then-in_range c).After-weight_at-weight) (within c);
  none = λ n. absurd (n (row_stands (goal.at.returns-then-in_range c).Then-stands) (within c));
  small = lift_small (is (goal.at.returns-then-in_range c).After-weight_at-weight) (within c);
}
