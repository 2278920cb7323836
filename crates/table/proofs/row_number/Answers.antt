-- `table::row_number` meets its contract: as in the header, the tests passed are the good conditions, and the test
-- taken refutes the next; of a condition on the other version there is nothing to show. A signed result is held as
-- bits, which `is` reads back.
use mir.Syntax.{w32}
use mir.Val.{to_z, of_z}
use mir.ValLaws.{to_z-of_z}
use Rattle.std.specs.Prelude.{None, Some}
use Rattle.table.specs.Examine.{RowNumber}
use Rattle.table.specs.work.RowTold.{RowTold}
use Rattle.table.specs.Refuse.{Unless, refused, passed}
use Rattle.table.specs.Header.{version_of}
use Rattle.table.specs.Row.{row_at, weight_at}
use Prim.Native.Nat.{ℕ, ◌≤◌, ◌<◌}
use mathlib.Core.Path.{◌≡◌, refl, ◌∙◌}
use mathlib.Core.List.{List}
use mathlib.Core.Logic.{◌≢◌}
use native.Mathlib.Omega.{arith}
use Rattle.table.proofs.row_number.Goals.{After-weight_at, After-u32_at-length, Else-u16_at-eq2, Then-u16_at-eq2}
use Rattle.table.proofs.row_number.Goals.{then-nodes-a-via-then-nodes-a, then-nodes-a-via-else-nodes-a+then-nodes-b}
use Rattle.table.proofs.row_number.Goals as goal

-- an answer that names a number, or none
module _ {n : ℕ} {s : List ℕ} {r : ℕ} where
  numbered : {k : ℕ} → 0 < k → RowNumber n s r k → RowTold n s r (Some k)
  numbered h p = record { number = p; met = λ e. absurd (omega (arith, e)) }

  unnumbered : RowNumber n s r 0 → RowTold n s r None
  unnumbered p = record { number = p; met = λ _. refl }

-- 7, 8 and 9 pass
module _ (c : After-u32_at-length) (short : c.u32_at-length.result ≤ 1000000) where
  abbrev bytes : List ℕ
  bytes = c.args.s.now

  abbrev row : ℕ
  row = c.args.r

  abbrev nodes : ℕ
  nodes = c.args.nodes

  sized : {rest : ℕ → Type 0} {k : ℕ} → rest k
      → Unless ℕ 7 (((row_at bytes row).a < nodes) × ((row_at bytes row).b < nodes))
      (Unless ℕ 8 ((row_at bytes row).a ≢ (row_at bytes row).b)
      (Unless ℕ 9 ((row_at bytes row).length ≤ 1000000) rest)) k
  sized p = passed (omega arith, omega arith) (passed (λ e. omega (arith, e)) (passed (omega arith) p))

-- version 2: 22 and 23 in place of 10
second : (c : Then-u16_at-eq2) → version_of ((c.args.s.now)) ≡ 2
second c = omega arith

-- any other version: 10
other : (c : Else-u16_at-eq2) → version_of ((c.args.s.now)) ≢ 2
other c e = omega (arith, e)

is : (c : After-weight_at)
    → to_z w32 (of_z w32 c.weight_at.result)
    ≡ weight_at ((c.args.s.now)) ((c.args.r))
is c = to_z-of_z w32 _ (record { sfits = c.weight_at.type_inv }) ∙ c.weight_at.ensures

pub returns-then-nodes-a : goal.returns-then-nodes-a
returns-then-nodes-a c =
    numbered (omega arith) (refused (λ n. elim c.then-nodes-a.branch [
      | then-nodes-a-via-then-nodes-a w ↦ omega (arith, n.0)
      | then-nodes-a-via-else-nodes-a+then-nodes-b w ↦ omega (arith, n.1)
    ]))

pub returns-then-a-b : goal.returns-then-a-b
returns-then-a-b c = numbered (omega arith) (passed (omega arith, omega arith) (refused (λ n. n (omega arith))))

pub returns-then-length-gt1000000 : goal.returns-then-length-gt1000000
returns-then-length-gt1000000 c =
    numbered (omega arith)
    (passed (omega arith, omega arith) (passed (λ e. omega (arith, e)) (refused (λ n. omega arith))))

pub returns-then-u16_at-ge64 : goal.returns-then-u16_at-ge64
returns-then-u16_at-ge64 c =
    let v = second (goal.at.returns-then-u16_at-ge64 c).Then-u16_at-eq2 in
    numbered (omega arith)
    (sized (goal.at.returns-then-u16_at-ge64 c).After-u32_at-length (omega arith)
    (passed (λ n. absurd (n v)) (refused (λ k. omega (arith, k v)))))

pub returns-then-u16_at-gt20000 : goal.returns-then-u16_at-gt20000
returns-then-u16_at-gt20000 c =
    let v = second (goal.at.returns-then-u16_at-gt20000 c).Then-u16_at-eq2 in
    numbered (omega arith)
    (sized (goal.at.returns-then-u16_at-gt20000 c).After-u32_at-length (omega arith)
    (passed (λ n. absurd (n v)) (passed (λ _. omega arith) (refused (λ k. omega (arith, k v))))))

pub returns-then-u16_at-eq2 : goal.returns-then-u16_at-eq2
returns-then-u16_at-eq2 c =
    let v = second (goal.at.returns-then-u16_at-eq2 c).Then-u16_at-eq2 in
    unnumbered
    (sized (goal.at.returns-then-u16_at-eq2 c).After-u32_at-length (omega arith)
    (passed (λ n. absurd (n v)) (passed (λ _. omega arith) (passed (λ _. omega arith) refl))))

pub returns-then-in_range : goal.returns-then-in_range
returns-then-in_range c =
    let n = other (goal.at.returns-then-in_range c).Else-u16_at-eq2 in
    let within = rw (is (goal.at.returns-then-in_range c).After-weight_at) at (c.in_range.ensures.0 c.if-in_range.true)
    in
    unnumbered
    (sized (goal.at.returns-then-in_range c).After-u32_at-length (omega arith)
    (passed (λ _. within) (passed (λ e. absurd (n e)) (passed (λ e. absurd (n e)) refl))))

pub returns : goal.returns
returns c =
    let beyond = rw (is (goal.at.returns c).After-weight_at) at (c.in_range.ensures.1 c.if-in_range.false) in
    numbered (omega arith)
    (sized (goal.at.returns c).After-u32_at-length (omega arith) (refused (λ w. beyond
    (w (other (goal.at.returns c).Else-u16_at-eq2)))))
