-- `table::open_table` meets its contract: at each return the tests passed are the good conditions before it, in the
-- paper's order, and the test taken refutes the next.
use Rattle.table.specs.Refuse.{refused, passed}
use Rattle.table.specs.Header.{Lettered, version_of}
use Rattle.table.specs.Opens.{opening_refusal}
use Rattle.table.proofs.Accepted.{past_header}
use Prim.Native.Nat.{ℕ, ◌≤◌}
use native.Mathlib.Decide.{ℕ_discrete}
use mathlib.Core.Path.{◌≡◌}
use mathlib.Core.List.{List}
use mathlib.Core.Logic.{◌⊎◌, inl, inr, ⊎_elim}
use lib.ListN.{length}
use native.Mathlib.Omega.{arith}
use Rattle.table.proofs.open_table.Goals.{Else-s-ne78, Else-version-gt2}
use Rattle.table.proofs.open_table.Goals.{then-s-ne82-via-then-s-ne82, then-s-ne82-via-else-s-ne82+then-s-ne84}
use Rattle.table.proofs.open_table.Goals.{then-s-ne82-via-else-s-ne82+else-s-ne84+then-s-ne78}
use Rattle.table.proofs.open_table.Goals as goal

-- 1 and 2 pass
module _ (c : Else-s-ne78) where
  abbrev bytes : List ℕ
  bytes = c.args.s.now

  long : 12 ≤ length bytes
  long = omega arith

  lettered : Lettered bytes
  lettered = (c.if-s-ne82.false, c.if-s-ne84.false, c.if-s-ne78.false)

one_or_two : {v : ℕ} → 1 ≤ v → v ≤ 2 → (v ≡ 1) ⊎ (v ≡ 2)
one_or_two {v} h k = pick (ℕ_discrete v 1)
  where
    pick : Dec (v ≡ 1) → (v ≡ 1) ⊎ (v ≡ 2)
    pick (yes e) = inl e
    pick (no n) = inr (omega arith)

-- and 3
versioned : (c : Else-version-gt2)
    → (version_of ((c.args.s.now)) ≡ 1) ⊎ (version_of ((c.args.s.now)) ≡ 2)
versioned c = one_or_two (omega arith) (omega arith)

pub returns-then-s-ne82 : goal.returns-then-s-ne82
returns-then-s-ne82 c =
    passed (omega arith) (refused (λ n. elim c.then-s-ne82.branch [
      | then-s-ne82-via-then-s-ne82 w ↦ w.if-s-ne82.true n.0
      | then-s-ne82-via-else-s-ne82+then-s-ne84 w ↦ w.if-s-ne84.true n.1
      | then-s-ne82-via-else-s-ne82+else-s-ne84+then-s-ne78 w ↦ w.if-s-ne78.true n.2
    ]))

pub returns-then-version-lt1 : goal.returns-then-version-lt1
returns-then-version-lt1 c =
    passed (long (goal.at.returns-then-version-lt1 c).Else-s-ne78)
    (passed (lettered (goal.at.returns-then-version-lt1 c).Else-s-ne78)
    (refused (⊎_elim (λ e. omega (arith, e)) (λ e. omega (arith, e)))))

pub returns-then-nodes-lt1 : goal.returns-then-nodes-lt1
returns-then-nodes-lt1 c =
    passed (long (goal.at.returns-then-nodes-lt1 c).Else-s-ne78)
    (passed (lettered (goal.at.returns-then-nodes-lt1 c).Else-s-ne78)
    (passed (versioned (goal.at.returns-then-nodes-lt1 c).Else-version-gt2) (refused (λ n. omega (arith, n.0)))))

pub returns-then-s-ne0 : goal.returns-then-s-ne0
returns-then-s-ne0 c =
    passed (long (goal.at.returns-then-s-ne0 c).Else-s-ne78)
    (passed (lettered (goal.at.returns-then-s-ne0 c).Else-s-ne78)
    (passed (versioned (goal.at.returns-then-s-ne0 c).Else-version-gt2)
    (passed (omega arith, omega arith) (refused (λ n. omega arith)))))

pub returns-then-s-from : goal.returns-then-s-from
returns-then-s-from c =
    passed (long (goal.at.returns-then-s-from c).Else-s-ne78)
    (passed (lettered (goal.at.returns-then-s-from c).Else-s-ne78)
    (passed (versioned (goal.at.returns-then-s-from c).Else-version-gt2)
    (passed (omega arith, omega arith) (passed (omega arith) (refused (λ n. omega arith))))))

pub returns : goal.returns
returns c =
    past_header opening_refusal {s = bytes (goal.at.returns c).Else-s-ne78}
    (record {
      long = long (goal.at.returns c).Else-s-ne78;
      letters = lettered (goal.at.returns c).Else-s-ne78;
      version = versioned (goal.at.returns c).Else-version-gt2;
      some = omega arith;
      few = omega arith;
      reserved = omega arith;
      size = omega arith;
    })
    (cc)
