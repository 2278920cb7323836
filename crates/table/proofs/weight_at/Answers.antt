-- `table::weight_at` meets its contract: count times score where the version is 2, and otherwise what the row's last
-- four bytes mean. The product fits because a score lies from −50 to 24.
use mir.Syntax.{w32}
use mir.Val.{SFits}
use mir.ValLaws.{to_z-of_z}
use Rattle.table.proofs.Weights.{weighing, weighing_fits, weight_by_kind}
use Prim.Native.Nat.{ℕ, ◌<◌}
use mathlib.Core.Path.{sym, ◌∙◌}
use native.Mathlib.Omega.{arith}
use Rattle.table.proofs.weight_at.Goals.{After-from-count}
use Rattle.table.proofs.weight_at.Goals as goal

-- a count and a score as they are multiplied
module _ (c : After-from-count) where
  abbrev kind : ℕ
  kind = c.u16_at-then-u16_at-eq2.result

  abbrev count : ℕ
  count = c.u16_at-then-u16_at-eq2-2.result

  few : count < 65536
  few = omega arith

  count_fits : SFits w32 c.from-count.result
  count_fits = record { sfits = c.from-count.type_inv }

  score_fits : SFits w32 c.score_of-score.result
  score_fits = record { sfits = c.score_of-score.type_inv }

pub returns-then-u16_at-eq2 : goal.returns-then-u16_at-eq2
returns-then-u16_at-eq2 c =
    let kind_is = c.u16_at-then-u16_at-eq2.ensures in
    let count_is = c.u16_at-then-u16_at-eq2-2.ensures in
    let s = c.args.s.now in
    let g = count_fits c in
    let f = score_fits c in
    to_z-of_z w32 _ (weighing_fits (kind c) (count c) (few c) g c.from-count.ensures f c.score_of-score.ensures)
    ∙ weighing (kind c) (count c) (few c) g c.from-count.ensures f c.score_of-score.ensures
    ∙ (cc)
    ∙ sym (weight_by_kind s c.args.row (omega arith))
