-- `belongs`: each test that fails names a number of the row that is not the entry's; where none does, the row is the
-- entry's byte for byte.
use mathlib.Core.Path.{sym, ◌∙◌}
use native.Mathlib.Omega.{arith}
use borrow.Author.Tests.{eqb-true, eqb-false}
use Rattle.vetting.proofs.Belonging.{
  figures_asked,
  figures_named,
  foreign_pair,
  foreign_length,
  foreign_weight,
  belongs_by,
}
use Rattle.vetting.proofs.rows.belongs.Goals.{
  then-b-a-via-then-b-a,
  then-b-a-via-else-b-a+then-pairs-b,
  then-four-v,
  else-four-v,
}
use Rattle.vetting.proofs.rows.belongs.Goals as goal

pub returns-then-b-a : goal.returns-then-b-a
returns-then-b-a c =
    foreign_pair c.args.pairs.now.sums c.requires.0 _ _
    (λ l h. elim c.then-b-a.branch [
      | then-b-a-via-then-b-a w ↦ omega (arith, c.two-a.ensures.0, c.two-b.ensures.0, l, w.if-b-a.true)
      | then-b-a-via-else-b-a+then-pairs-b w ↦ omega (arith, c.two-b.ensures.0, h, w.if-pairs-b.true)
    ])

pub figure-v-requires : goal.figure-v-requires
figure-v-requires c =
    figures_asked c.args.pairs.now.sums c.requires.0 (omega (arith, c.if-b-a.false)) (omega (arith, c.if-pairs-b.false))

pub bits-requires : goal.bits-requires
bits-requires c = c.figure-v.ensures.1

pub returns-then-eight-bits : goal.returns-then-eight-bits
returns-then-eight-bits c =
    let low = c.two-a.ensures.0 in
    let high = c.two-b.ensures.0 in
    let is = c.if-eight-bits.true in
    elim c.if-four-v.branch [
      | then-four-v w ↦
          belongs_by c.args.pairs.now.sums c.requires.0 _ _ (figures_named low high c.figure-v.ensures.0)
          (λ i. omega (arith, c.type_inv.list i)) c.requires.1 (omega (arith, low, high, c.if-b-a.false))
          (omega (arith, high, c.if-pairs-b.false)) (omega (arith, c.four.ensures.0, w.if-four-v.true))
          (sym w.eight.ensures ∙ eqb-true _ _ (sym w.value-is ∙ is) ∙ w.bits.ensures) c.passes.ensures
      | else-four-v w ↦ absurd (w.if-four-v.false (eqb-true _ _ (sym w.value-is ∙ is)))
    ]

pub returns-else-eight-bits : goal.returns-else-eight-bits
returns-else-eight-bits c =
    let low = c.two-a.ensures.0 in
    let high = c.two-b.ensures.0 in
    let isnt = c.if-eight-bits.false in
    let named = figures_named low high c.figure-v.ensures.0 in
    rw isnt (elim c.if-four-v.branch [
      | then-four-v w ↦
          foreign_weight c.args.pairs.now.sums c.requires.0 _ _ named
          (λ e. eqb-false _ _ (sym w.value-is ∙ isnt) (w.eight.ensures ∙ e ∙ sym w.bits.ensures))
      | else-four-v w ↦
          foreign_length c.args.pairs.now.sums c.requires.0 _ _ named (λ e. w.if-four-v.false (c.four.ensures.0 ∙ e))
    ])
