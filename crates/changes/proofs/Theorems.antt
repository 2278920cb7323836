-- What a reader of demand 2 looks for: claim, commit and abort change exactly the marks named, what a commit leaves
-- tells by whom a branch is spent, and a claim's two nodes may stand in either order. Each is read off the promises, of
-- an answer `Ok k`: nothing was refused. What becomes of free branches, in Freed, is of refused calls too.
use mathlib.Core.Path.{◌≡◌, sym, ap, ◌∙◌}
use mathlib.Core.Logic.{◌⊎◌, inl, inr}
use mathlib.Core.List.{List}
use Prim.Native.Nat.{ℕ}
use native.Mathlib.Decide.{ℕ_discrete}
use native.Mathlib.Omega.{arith}
use lib.Seq.{ext_get_or}
use Rattle.arrays.specs.At.{at}
use Rattle.table.specs.Header.{nodes_of}
use Rattle.table.proofs.Refusals.{past, unless_map, unless_alike}
use Rattle.tree.proofs.Begins.{begins_past, begins_map}
use Rattle.net.proofs.Flip.{two_flip}
use Rattle.net.proofs.Counts.{count_none, count_unique}
use Rattle.marks.specs.Mark.{free, spend, Free, HeldBy, SpentBy, RunNumber}
use Rattle.marks.proofs.Readings.{held?, held_not_spent, own_held, own_spent}
use Rattle.changes.specs.Change.{Change, change_refusal, Changes, Settles, Commits, Aborts}
use Rattle.changes.specs.Claim.{Taken, Claims}
use Rattle.std.specs.Prelude.{Ok, Err}
use Rattle.changes.proofs.Either.{ended_flip}

abbrev taken : Change → ℕ
taken (Ok k) = 1
taken (Err w) = 0

plain : (before : List ℕ) {after : List ℕ} {j : ℕ} (k r g : ℕ) → change_refusal before k r g ≡ (Ok j, after) → ⊥
plain before k r g e = omega (arith, ap (λ (o : Change × List ℕ). taken o.0) e)

module _ (s before : List ℕ) {after : List ℕ} {k : ℕ} where
  -- a commit or an abort that is not refused: a run's number, and what it holds, no more and no less, has the new mark
  settled : {m run : ℕ} → Settles m s before run (Ok k, after)
      → RunNumber run × Changes (λ r. HeldBy run (at before r)) m before after k
  settled p =
      let a = past (plain before 13 0 0) (begins_past (change_refusal before) s (plain before) p).1 in
      past (plain before 14 0 0) a.1

  pub committed : {run : ℕ} → Commits s before run (Ok k, after)
      → RunNumber run × Changes (λ r. HeldBy run (at before r)) (spend run) before after k
  committed = settled

  pub aborted : {run : ℕ} → Aborts s before run (Ok k, after)
      → RunNumber run × Changes (λ r. HeldBy run (at before r)) free before after k
  aborted = settled

  -- a claim that is not refused: the free branches of the path, no more and no less, are held by the run
  pub claimed : {run a b : ℕ} → Claims s before run a b (Ok k, after)
      → RunNumber run × Changes (Taken s before (nodes_of s) a b) run before after k
  claimed p =
      let x = past (plain before 13 0 0) (begins_past (change_refusal before) s (plain before) p).1 in
      let y = past (plain before 14 0 0) x.1 in
      let z = past (plain before 15 0 0) y.1 in
      let u = past (plain before 18 0 0) z.1 in
      (y.0, (past (plain before 19 0 0) u.1).1)

  -- A CLAIM NEVER TOUCHES A MARK THAT WAS NOT FREE
  pub claim_leaves : {run a b : ℕ} → Claims s before run a b (Ok k, after) → (r : ℕ) → (Free (at before r) → ⊥)
      → at after r ≡ at before r
  claim_leaves p r n = (claimed p).1.stays r (λ t. n t.free)

  -- WHAT IS SPENT STAYS, by whomever: no commit and no abort touches it
  settled_leaves : {m run other : ℕ} → Settles m s before run (Ok k, after) → (r : ℕ)
      → SpentBy other (at before r) → at after r ≡ at before r
  settled_leaves p r t = (settled p).1.stays r (λ h. held_not_spent h t)

  pub commit_leaves_spent : {run other : ℕ} → Commits s before run (Ok k, after) → (r : ℕ)
      → SpentBy other (at before r) → at after r ≡ at before r
  commit_leaves_spent = settled_leaves

  pub abort_leaves_spent : {run other : ℕ} → Aborts s before run (Ok k, after) → (r : ℕ)
      → SpentBy other (at before r) → at after r ≡ at before r
  abort_leaves_spent = settled_leaves

  module _ {run : ℕ} (p : Commits s before run (Ok k, after)) where
    -- A COMMIT SETS THE TOP BIT of what the run held
    pub commit_sets : (r : ℕ) → HeldBy run (at before r) → at after r ≡ spend (at before r)
    commit_sets r h = let c = committed p in c.1.becomes r h ∙ omega (arith, h.keeps, c.0.below)

    -- so that it reads as spent by that run
    pub commit_spends : (r : ℕ) → HeldBy run (at before r) → SpentBy run (at after r)
    commit_spends r h = let c = committed p in rw (c.1.becomes r h) (own_spent c.0)

    -- and nothing else reads so that did not before
    pub commit_spends_only : (r : ℕ) → SpentBy run (at after r)
        → HeldBy run (at before r) ⊎ SpentBy run (at before r)
    commit_spends_only r t = pick (held? run (at before r))
      where
        pick : Dec (HeldBy run (at before r)) → HeldBy run (at before r) ⊎ SpentBy run (at before r)
        pick (yes h) = inl h
        pick (no n) = inr (rw ((committed p).1.stays r n) at t)

-- A CLAIM TAKES ITS TWO NODES IN EITHER ORDER
pub claim_either : (s before : List ℕ) {run a b : ℕ} {o : Change × List ℕ} → Claims s before run a b o
    → Claims s before run b a o
claim_either s before p =
    begins_map (λ o. o) (change_refusal before) s
    (λ _. unless_map (λ o. o) (λ _. unless_map (λ o. o) (λ _. unless_alike two_flip two_flip ended_flip))) p

-- AFTER CLAIM THEN ABORT of a run that held nothing before, the marks are as they were
pub claim_abort : (s before mid after : List ℕ) {run a b j k : ℕ} → ((r : ℕ) → HeldBy run (at before r) → ⊥)
    → Claims s before run a b (Ok j, mid) → Aborts s mid run (Ok k, after) → after ≡ before
claim_abort s before mid after {run} {a} {b} {j} {k} none p t =
    ext_get_or 0 after before (y.same_many ∙ x.same_many) (λ r l. each r (held? run (at mid r)))
  where
    x : Changes (Taken s before (nodes_of s) a b) run before mid j
    x = (claimed s before p).1

    y : Changes (λ r. HeldBy run (at mid r)) free mid after k
    y = (aborted s mid t).1

    -- what the run holds afterwards it took, and it took what was free
    was_free : (r : ℕ) → HeldBy run (at mid r) → Dec (Free (at before r)) → Free (at before r)
    was_free r h (yes f) = f
    was_free r h (no n) = absurd (none r (rw (x.stays r (λ k. n k.free)) at h))

    -- what it does not hold afterwards it did not take
    kept : (r : ℕ) → (HeldBy run (at mid r) → ⊥) → at mid r ≡ at before r
    kept r n = x.stays r (λ k. n (own_held (claimed s before p).0 (x.becomes r k)))

    each : (r : ℕ) → Dec (HeldBy run (at mid r)) → at after r ≡ at before r
    each r (yes h) = y.becomes r h ∙ sym (was_free r h (ℕ_discrete (at before r) 0))
    each r (no n) = y.stays r n ∙ kept r n

-- AFTER COMMIT, ABORT of the same run changes nothing
pub commit_abort : (s before mid after : List ℕ) {run j k : ℕ} → Commits s before run (Ok j, mid)
    → Aborts s mid run (Ok k, after) → (after ≡ mid) × (k ≡ 0)
commit_abort s before mid after {run} {j} {k} p t = (
  ext_get_or 0 after mid y.same_many (λ r l. y.stays r (none r)),
  count_unique y.count (count_none none),
)
  where
    y : Changes (λ r. HeldBy run (at mid r)) free mid after k
    y = (aborted s mid t).1

    -- what it held is spent, and what it did not hold stayed
    none : (r : ℕ) → HeldBy run (at mid r) → ⊥
    none r h = pick (held? run (at before r))
      where
        pick : Dec (HeldBy run (at before r)) → ⊥
        pick (yes g) = held_not_spent h (commit_spends s before p r g)
        pick (no n) = n (rw ((committed s before p).1.stays r n) at h)
