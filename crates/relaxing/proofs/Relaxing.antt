-- RELAXING NEVER HURTS (Req 08), whatever the bytes and numbers. A larger B never lowers the heaviest weight and never
-- loses a run; a lower floor's list has the higher floor's in it, in the same order; a claim never raises the heaviest
-- weight, an abort never lowers it, a commit changes nothing. Each is read off the operations' own promises, whole
-- outcomes beside whole outcomes. The exact mode of Req 02 is not meant: there a larger B can lose a run, and the
-- smallest net that shows it stands at the end. (Floors, claims and aborts do as much in that mode: Floors and Heaviest
-- are over any length test.)
use Prim.Native.Nat.{ℕ, ◌≤◌, ◌<◌}
use mathlib.Core.Path.{◌≡◌, refl, sym}
use mathlib.Core.Logic.{◌⊎◌, inl, inr, ◌≢◌}
use mathlib.Core.List.{List, [], ◌∷◌}
use native.Mathlib.Omega.{arith}
use lib.IntN.{ℤ, pos}
use lib.Seq.{get_or-set_other}
use lib.Signed.{◌≤ℤ◌}
use Rattle.std.specs.Prelude.{Err}
use Rattle.table.specs.Header.{bound_of}
use Rattle.tree.specs.declared.Refusal.{Refusal}
use Rattle.changes.specs.Change.{Commits, Aborts, Change}
use Rattle.changes.specs.Claim.{Claims}
use Rattle.changes.proofs.Freed.{claim_frees_none, abort_takes_none}
use Rattle.paging.specs.Paging.{Listed}
use Rattle.heaviest.specs.Heaviest.{heaviest_refusal, HeaviestOf, HeaviestExactOf, HeaviestAnswer, between}
use Rattle.listing.specs.Listing.{ListingOf}
use Rattle.worked.specs.Cases.{net2}
use Rattle.worked.proofs.Worked.{exact_found, exact_lost}
use Rattle.relaxing.specs.Relaxed.{
  BoundRaised,
  NotLess,
  alike,
  found,
  NoWorse,
  not_less,
  FoundFrom,
  Sublist,
  Gave,
  rows_in,
}
use Rattle.relaxing.proofs.Heaviest.{looser_no_worse, freer_not_less}
use Rattle.relaxing.proofs.Commits.{heaviest_after_commit}
use Rattle.relaxing.proofs.Bound.{heaviest_same}
use Rattle.relaxing.proofs.Floors.{lower_floor_rows, floor_refuses_none}

-- A LARGER B in the same table, under the same marks
module _ {s t : List ℕ} (e : BoundRaised s t) (marks : List ℕ) where
  -- both are refused alike; or 16, and then a run; or both are found, and the second weighs no less
  pub larger_bound : (x y : HeaviestAnswer) → HeaviestOf s marks x → HeaviestOf t marks y → NoWorse x y
  larger_bound x y p q =
      looser_no_worse (λ l. l ≤ bound_of s) (λ l. l ≤ bound_of t) (λ l h. omega (arith, h, e.raised)) t marks x y
      (heaviest_same 16 (λ l. l ≤ bound_of s) e.same marks p) q

  -- where there is a run of weight w, there is one then, of w or more
  pub still_found : {a b l : ℕ} {w : ℤ} (y : HeaviestAnswer) → HeaviestOf s marks (between a b l w)
      → HeaviestOf t marks y → FoundFrom w y
  still_found {a} {b} {l} {w} y p q = read (larger_bound (between a b l w) y p q)
    where
      read : {y : HeaviestAnswer} → NoWorse (between a b l w) y → FoundFrom w y
      read (not_less (found h)) = h

  -- what is refused then was refused before, by the same number, row and ring
  pub refused_before : (x : HeaviestAnswer) (why : Refusal) → HeaviestOf s marks x → HeaviestOf t marks (Err why)
      → x ≡ Err why
  refused_before x why p q = read (larger_bound x (Err why) p q)
    where
      read : {x : HeaviestAnswer} → NoWorse x (Err why) → x ≡ Err why
      read (not_less (alike w)) = refl

-- A LOWER FLOOR for the same table and marks
module _ (s marks : List ℕ) {floor lower : ℤ} (h : lower ≤ℤ floor) where
  -- the rows that calls gave for the higher floor are those for the lower one with some left out, in the same order
  pub lower_floor : {joined joined' : List ℕ} → Gave s marks floor joined → Gave s marks lower joined'
      → Sublist (rows_in joined) (rows_in joined')
  lower_floor = lower_floor_rows (λ l. l ≤ bound_of s) s marks h

-- and a call that is refused with one floor is refused with any other, alike
pub any_floor_refused : (s marks : List ℕ) (floor other : ℤ) (low high : ℕ) (old now : List ℕ) (why : Refusal)
    (y : Listed × List ℕ) → ListingOf s marks floor low high old (Err why, now)
    → ListingOf s marks other low high old y → y ≡ (Err why, now)
any_floor_refused s = floor_refuses_none (λ l. l ≤ bound_of s) s

-- A CLAIM, AN ABORT, A COMMIT, of any run and nodes, refused or not: o is what it leaves, its answer and the marks; x
-- and y are heaviest's outcomes before and after it
module _ (s before : List ℕ) {run : ℕ} (o : Change × List ℕ) (x y : HeaviestAnswer) (p : HeaviestOf s before x)
    (q : HeaviestOf s o.1 y) where
  -- both are refused alike; or both are found, and the run after a claim weighs no more
  pub claim_never_raises : {a b : ℕ} → Claims s before run a b o → NotLess y x
  claim_never_raises c =
      let l = claim_frees_none s before c in
      freer_not_less 16 (λ l. l ≤ bound_of s) s o.1 before l.so l.same_many y x q p

  -- both are refused alike; or both are found, and the run after an abort weighs no less
  pub abort_never_lowers : Aborts s before run o → NotLess x y
  abort_never_lowers c =
      let l = abort_takes_none s before c in
      freer_not_less 16 (λ l. l ≤ bound_of s) s before o.1 l.so (sym l.same_many) x y p q

  pub commit_changes_nothing : Commits s before run o → x ≡ y
  commit_changes_nothing c = heaviest_after_commit s before o c (λ l. l ≤ bound_of s) 16 x y p q

-- THE EXACT MODE IS NOT MEANT: two nodes, one branch of length 0. With B 0 the exact mode finds it, with B 1 none
pub exact_not_meant : BoundRaised (net2 0) (net2 1)
    × HeaviestExactOf (net2 0) (0 ∷ []) (between 0 1 0 (pos 0))
    × HeaviestExactOf (net2 1) (0 ∷ []) (heaviest_refusal 21 0 0)
unfolding net2
exact_not_meant = (
  record {
    same = record { size = refl; bytes = λ i h. get_or-set_other (net2 1) 8 i 0 0 (apart i h) };
    raised = omega arith;
  },
  exact_found,
  exact_lost,
)
  where
    apart : (i : ℕ) → (i < 8) ⊎ (12 ≤ i) → i ≢ 8
    apart i (inl h) e = omega arith
    apart i (inr h) e = omega arith
