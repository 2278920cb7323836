-- Heaviest, under any length test that computes: an outcome that passes the test is the one promised. The pair that it
-- gives is held against every pair within the length test; the refusal for none finds none. Then the two length tests:
-- at most B, and exactly B.
use Prim.Native.Nat.{ℕ, ◌-◌, ◌≤◌}
use mathlib.Core.Path.{◌≡◌}
use mathlib.Core.Bool.{Bool, true, false}
use mathlib.Core.List.{List, [], ◌∷◌}
use lib.Dec.{T, eqb, leb, eqb_refl, eqb→eq, leb→le, le→leb}
use lib.IntN.{ℤ}
use lib.ListN.{length}
use Rattle.std.specs.Prelude.{Ok, Err}
use Rattle.table.specs.Refuse.{passed, refused}
use Rattle.table.specs.Header.{nodes_of}
use Rattle.tree.specs.declared.Refusal.{Refusal}
use Rattle.pages.specs.Listing.{Entry, entry}
use Rattle.pages.proofs.Qualifying.{passes_map}
use Rattle.heaviest.specs.Heaviest.{heaviest_refusal, PairsWithin, HeaviestWithin, HeaviestAnswer, between}
use Rattle.worked.proofs.Tests.{every, every_passed}
use Rattle.worked.proofs.Accepted.{accepted?, begins}
use Rattle.worked.proofs.Pairs.{ways?, Wanted, wanted?, is_wanted, all_pairs, all_wanted}
use Rattle.worked.proofs.Entries.{at_least?, is_at_least}

-- a length test that computes, and that it tells just what is within
pub record LengthTest (Within : ℕ → Type 0) : Type 0 where
  pub short : ℕ → Bool
  pub is_short : (l : ℕ) → T (short l) → Within l
  pub short_test : (l : ℕ) → Within l → T (short l)

abbrev pub at_most : (bound : ℕ) → LengthTest (λ l. l ≤ bound)
at_most bound =
    record {
      short = λ l. leb l bound;
      is_short = λ l t. leb→le l bound t;
      short_test = λ l h. le→leb l bound h;
    }

abbrev pub exactly : (bound : ℕ) → LengthTest (λ l. l ≡ bound)
exactly bound =
    record {
      short = λ l. eqb l bound;
      is_short = λ l t. eqb→eq l bound t;
      short_test = λ l e. rw e (eqb_refl bound);
    }

-- `none` is the number given where no pair passes the length test
module _ (way : ℕ → ℕ → List ℕ) (s marks : List ℕ) (none : ℕ) {Within : ℕ → Type 0} (test : LengthTest Within) where
  abbrev any : ℤ → Bool
  any w = true

  to : (e : Entry) → Wanted s marks way test.short any e → PairsWithin Within s marks (nodes_of s) e
  to e = passes_map (λ q. q) (test.is_short e.length) (λ _. tt)

  fro : (e : Entry) → PairsWithin Within s marks (nodes_of s) e → Wanted s marks way test.short any e
  fro e = passes_map (λ q. q) (test.short_test e.length) (λ _. tt)

  -- a pair found
  abbrev found_tests : Entry → List Bool
  found_tests run =
      accepted? s ∷ eqb (length marks) (nodes_of s - 1) ∷ ways? s marks way
      ∷ wanted? s marks way test.short any run ∷ all_pairs s marks way test.short any (at_least? run) ∷ []

  is_found : (run : Entry) → T (every (found_tests run))
      → HeaviestWithin none Within s marks (between run.low run.high run.length run.weight)
  is_found run t =
      let p = every_passed (found_tests run) t in
      let ways = p.1.1.0 in
      let q = p.1.1.1 in
      let r = to run (is_wanted s marks way test.short any ways run q.0) in
      begins s p.0 heaviest_refusal
      (passed (eqb→eq _ _ p.1.0)
      (passed (run, r)
      (record {
        one = r;
        best = λ f h. is_at_least run f
            (all_wanted s marks way test.short any p.0 ways (at_least? run) q.1.0 f (fro f h));
      })))

  -- none found
  abbrev none_tests : Refusal → List Bool
  none_tests why =
      accepted? s ∷ eqb (length marks) (nodes_of s - 1) ∷ ways? s marks way ∷ eqb why.number none ∷ eqb why.row 0
      ∷ eqb why.ring 0 ∷ all_pairs s marks way test.short any (λ e. false) ∷ []

  is_none : (why : Refusal) → T (every (none_tests why)) → HeaviestWithin none Within s marks (Err why)
  is_none why t =
      let p = every_passed (none_tests why) t in
      let ways = p.1.1.0 in
      let q = p.1.1.1 in
      let n : why.number ≡ none = eqb→eq _ _ q.0 in
      let r : why.row ≡ 0 = eqb→eq _ _ q.1.0 in
      let g : why.ring ≡ 0 = eqb→eq _ _ q.1.1.0 in
      turn (λ i. heaviest_refusal (n i) (r i) (g i))
      (begins s p.0 heaviest_refusal
      (passed (eqb→eq _ _ p.1.0)
      (refused
      (λ e. all_wanted s marks way test.short any p.0 ways (λ e. false) q.1.1.1.0 e.0
      (fro e.0 e.1)))))
    where
      turn : Err why ≡ heaviest_refusal none 0 0 → HeaviestWithin none Within s marks (heaviest_refusal none 0 0)
          → HeaviestWithin none Within s marks (Err why)
      turn e h = rw e h

  unfoldable pub best? : HeaviestAnswer → Bool
  best? (Ok o) = every (found_tests (entry o.low o.high o.length o.weight))
  best? (Err why) = every (none_tests why)

  pub is_best : (o : HeaviestAnswer) → T (best? o) → HeaviestWithin none Within s marks o
  unfolding best?
  is_best (Ok o) t = is_found (entry o.low o.high o.length o.weight) t
  is_best (Err why) t = is_none why t
