-- Which branches are free after a claim, a commit and an abort, refused or not: after a claim none that was not free
-- before, after an abort all that were, after a commit the same. A refusal leaves the marks as they were.
use mathlib.Core.Path.{◌≡◌, refl, sym, ◌∙◌}
use mathlib.Core.List.{List}
use Prim.Native.Nat.{ℕ}
use native.Mathlib.Decide.{ℕ_discrete}
use lib.ListN.{length}
use Rattle.arrays.specs.At.{at}
use Rattle.table.specs.Header.{nodes_of}
use Rattle.table.proofs.Refusals.{by_unless}
use Rattle.tree.proofs.Begins.{by_beginning}
use Rattle.marks.specs.Mark.{spend, Free, HeldBy, RunNumber}
use Rattle.marks.proofs.Readings.{held?, held_not_free, spent_not_free, own_spent}
use Rattle.marks.proofs.Weights.{Alike, Freer}
use Rattle.changes.specs.Change.{Change, change_refusal, Changes, Done, Settles, Commits, Aborts}
use Rattle.changes.specs.Claim.{Taken, Claims}
use Rattle.std.specs.Prelude.{Ok, Err}

-- as many marks as before, and related to them by R
pub record Leaves (R : List ℕ → List ℕ → Type 0) (before after : List ℕ) : Type 0 where
  pub same_many : length after ≡ length before
  pub so : R before after

module _ (s before : List ℕ) (R : List ℕ → List ℕ → Type 0) (self : R before before) where
  -- what a call leaves: its answer, and the marks
  abbrev Marks : Change × List ℕ → Type 0
  Marks o = Leaves R before o.1

  stays : Leaves R before before
  stays = record { same_many = refl; so = self }

  done : {P : ℕ → Type 0} {m : ℕ} → ((k : ℕ) (after : List ℕ) → Changes P m before after k → R before after)
      → (o : Change × List ℕ) → Done P m before o → Marks o
  done f (Ok k, after) c = record { same_many = c.same_many; so = f k after c }
  done f (Err why, after) c = absurd c

  settles : {m run : ℕ} {o : Change × List ℕ} → (RunNumber run → (k : ℕ) (after : List ℕ)
      → Changes (λ r. HeldBy run (at before r)) m before after k → R before after)
      → Settles m s before run o → Marks o
  settles f p =
      by_beginning Marks (change_refusal before) s (λ k r g _. stays)
      (λ _. by_unless Marks stays (λ _ _. by_unless Marks stays (λ t. done (f t)))) p

  claims : {run a b : ℕ} {o : Change × List ℕ} → (RunNumber run → (k : ℕ) (after : List ℕ)
      → Changes (Taken s before (nodes_of s) a b) run before after k → R before after)
      → Claims s before run a b o → Marks o
  claims f p =
      by_beginning Marks (change_refusal before) s (λ k r g _. stays)
      (λ _. by_unless Marks stays
      (λ _ _. by_unless Marks stays
      (λ t _. by_unless Marks stays
      (λ _ _. by_unless Marks stays (λ _ _. by_unless Marks stays (λ _. done (f t))))))) p

module _ (s before : List ℕ) {run : ℕ} {o : Change × List ℕ} where
  -- a claim takes what was free, and what it takes is free no more
  pub claim_frees_none : {a b : ℕ} → Claims s before run a b o → Leaves (λ old now. Freer now old) before o.1
  claim_frees_none =
      claims s before (λ old now. Freer now old) (λ r f. f)
      (λ _ k after c r f. was c r f (ℕ_discrete (at before r) 0))
    where
      was : {a b k : ℕ} {after : List ℕ} → Changes (Taken s before (nodes_of s) a b) run before after k → (r : ℕ)
          → Free (at after r) → Dec (Free (at before r)) → Free (at before r)
      was c r f (yes e) = e
      was c r f (no n) = sym (c.stays r (λ t. n t.free)) ∙ f

  -- what an abort changes was held
  pub abort_takes_none : Aborts s before run o → Leaves Freer before o.1
  abort_takes_none = settles s before Freer (λ r f. f) (λ _ k after c r f. c.stays r (λ h. held_not_free h f) ∙ f)

  -- what a commit changes was held, and is spent
  pub commit_alike : Commits s before run o → Leaves Alike before o.1
  commit_alike = settles s before Alike (λ r. (λ f. f, λ f. f)) (λ t k after c r. pick t c r (held? run (at before r)))
    where
      pick : {k : ℕ} {after : List ℕ} → RunNumber run
          → Changes (λ r. HeldBy run (at before r)) (spend run) before after k → (r : ℕ)
          → Dec (HeldBy run (at before r))
          → (Free (at before r) → Free (at after r)) × (Free (at after r) → Free (at before r))
      pick t c r (yes h) = (
        λ f. absurd (held_not_free h f),
        λ f. absurd (spent_not_free {run = run} (rw (c.becomes r h) (own_spent t)) f),
      )
      pick t c r (no n) = let e = c.stays r n in (λ f. e ∙ f, λ f. sym e ∙ f)
