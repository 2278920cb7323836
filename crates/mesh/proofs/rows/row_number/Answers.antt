-- `rows::row_number` meets its contract: the row read is the table's row, at each return the tests passed are the good
-- conditions before it, and the test taken refutes the next. Of a condition on version 2 there is nothing to show.
use Rattle.table.specs.Refuse.{refused, passed}
use Rattle.table.specs.Row.{row_at}
use Rattle.table.proofs.Range.{too_low, too_high, in_range}
use mir.Syntax.{w32}
use mir.Val.{to_z, of_z, SFits}
use mir.ValLaws.{to_z-of_z}
use Prim.Native.Nat.{ℕ}
use mathlib.Core.Path.{◌≡◌, refl, ap, ◌∙◌}
use mathlib.Core.List.{List}
use native.Mathlib.Omega.{arith}
use Rattle.std.proofs.Common.{rules}
use Rattle.mesh.proofs.rows.row_number.Goals.{
  After-row_at-q,
  then-n-a-via-then-n-a,
  then-n-a-via-else-n-a+then-n-b,
  then-q-ltminus1000000-via-then-q-ltminus1000000,
  then-q-ltminus1000000-via-else-q-ltminus1000000+then-q-gt1000000-2,
}
use Rattle.mesh.proofs.rows.row_number.Goals as goal

-- the row read is the table's
module _ (c : After-row_at-q) where
  abbrev bytes : List ℕ
  bytes = c.args.s.now

  abbrev row : ℕ
  row = c.args.r

  is : c.row_at-q.result ≡ row_at bytes row
  is = c.row_at-q.ensures.there c.requires.0

  first : c.row_at-q.result.a ≡ (row_at bytes row).a
  first = ap (λ q. q.a) is

  second : c.row_at-q.result.b ≡ (row_at bytes row).b
  second = ap (λ q. q.b) is

  long : c.row_at-q.result.length ≡ (row_at bytes row).length
  long = ap (λ q. q.length) is

  weight : c.row_at-q.result.weight ≡ (row_at bytes row).weight
  weight = ap (λ q. q.weight) is

-- a signed field is held as bits
held : (c : After-row_at-q)
    → to_z w32 (of_z w32 c.row_at-q.result.weight) ≡ (row_at c.args.s.now c.args.r).weight
held c = let fits : SFits w32 c.row_at-q.result.weight = search rules in to_z-of_z w32 _ fits ∙ weight c

pub returns-then-n-a : goal.returns-then-n-a
returns-then-n-a c =
    let t = (goal.at.returns-then-n-a c).After-row_at-q in (
      refused (λ n. elim c.then-n-a.branch [
        | then-n-a-via-then-n-a w ↦ omega (arith, first t, n.0)
        | then-n-a-via-else-n-a+then-n-b w ↦ omega (arith, second t, n.1)
      ]),
      omega arith,
    )

pub returns-then-a-b : goal.returns-then-a-b
returns-then-a-b c =
    let t = (goal.at.returns-then-a-b c).After-row_at-q in (
      passed (omega (arith, first t), omega (arith, second t))
          (refused (λ n. n (omega (arith, first t, second t)))),
      omega arith,
    )

pub returns-then-q-gt1000000 : goal.returns-then-q-gt1000000
returns-then-q-gt1000000 c =
    let t = (goal.at.returns-then-q-gt1000000 c).After-row_at-q in (
      passed (omega (arith, first t), omega (arith, second t))
          (passed (λ e. omega (arith, first t, second t, e)) (refused (λ n. omega (arith, long t)))),
      omega arith,
    )

pub returns-then-q-ltminus1000000 : goal.returns-then-q-ltminus1000000
returns-then-q-ltminus1000000 c =
    let t = (goal.at.returns-then-q-ltminus1000000 c).After-row_at-q in (
      passed (omega (arith, first t), omega (arith, second t))
          (passed (λ e. omega (arith, first t, second t, e))
          (passed (omega (arith, long t))
          (refused (λ within. elim c.then-q-ltminus1000000.branch [
            | then-q-ltminus1000000-via-then-q-ltminus1000000 w ↦
                too_low (rw (held t) at w.if-q-ltminus1000000.true) (within (λ e. omega arith))
            | then-q-ltminus1000000-via-else-q-ltminus1000000+then-q-gt1000000-2 w ↦
                too_high (rw (held t) at w.if-q-gt1000000-2.true) (within (λ e. omega arith))
          ])))),
      omega arith,
    )

pub returns : goal.returns
returns c =
    let t = (goal.at.returns c).After-row_at-q in
    let within = in_range (rw (held t) at c.if-q-ltminus1000000.false) (rw (held t) at c.if-q-gt1000000-2.false) in
    passed (omega (arith, first t), omega (arith, second t))
    (passed (λ e. omega (arith, first t, second t, e))
    (passed (omega (arith, long t))
    (passed (λ _. within)
    (passed (λ e. absurd (omega arith)) (passed (λ e. absurd (omega arith)) refl)))))
