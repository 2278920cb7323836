-- Claim: an outcome that passes the test is the one promised. The way between the two nodes is the path; so what is too
-- long, what is free on it and what becomes held are read off it.
use Prim.Native.Nat.{ℕ, ◌-◌, ◌<◌}
use mathlib.Core.Path.{◌≡◌, sym, ap, ◌∙◌}
use mathlib.Core.Bool.{Bool, true, false, not, ◌&&◌, cond}
use mathlib.Core.List.{List, [], ◌∷◌}
use native.Mathlib.Omega.{arith}
use native.Mathlib.Decide.{dec_lt}
use lib.Dec.{T, eqb, ltb, leb, eqb_refl, eqb→eq, ltb→lt, leb→le, T_not}
use lib.ListN.{length, get_or-eq_default}
use Rattle.std.specs.Prelude.{Ok, Err}
use Rattle.arrays.specs.At.{at}
use Rattle.table.specs.Refuse.{passed, refused}
use Rattle.table.specs.Header.{nodes_of, bound_of}
use Rattle.arrays.specs.Members.{In}
use Rattle.net.specs.Path.{Sum}
use Rattle.net.specs.Net.{length_of}
use Rattle.tree.specs.declared.Refusal.{Refusal}
use Rattle.net.proofs.Labels.{both}
use Rattle.changes.specs.Change.{change_refusal, Changes, Change}
use Rattle.changes.specs.Claim.{PathBetween, InReach, Taken, Ended, Claims}
use Rattle.worked.proofs.Tests.{
  and,
  cond_yes,
  cond_no,
  every,
  every_passed,
  below,
  below_all,
  throughout,
  throughout_in,
  has,
  in_has,
  has_in,
  no_repeat,
  no_repeat_distinct,
  same,
  same_is,
}
use Rattle.worked.proofs.Accepted.{accepted?, begins}
use Rattle.worked.proofs.Ways.{path?, is_path, path_only}

module _ (way : ℕ → ℕ → List ℕ) (s before : List ℕ) (run a b : ℕ) where
  abbrev rs : List ℕ
  rs = way a b

  -- row r of the path is free
  abbrev taken? : ℕ → Bool
  taken? r = has r rs && eqb (at before r) 0

  unfoldable pub frees : List ℕ → List ℕ
  frees [] = []
  frees (r ∷ l) = cond (eqb (at before r) 0) (r ∷ frees l) (frees l)

  -- what is tested before the path is looked at, and that the way is the path
  abbrev path_tests : List Bool
  path_tests =
      accepted? s ∷ eqb (length before) (nodes_of s - 1) ∷ ltb 0 run ∷ ltb run 32767 ∷ ltb a (nodes_of s)
      ∷ ltb b (nodes_of s) ∷ not (eqb a b) ∷ path? s a rs b ∷ []

  along : T (every path_tests) → (x : Change × List ℕ)
      → (T (accepted? s) → T (path? s a rs b) → Ended s (nodes_of s) (bound_of s) before run a b x)
      → Claims s before run a b x
  along t x h =
      let p = every_passed path_tests t in
      let q = p.1.1.1.1 in
      begins s p.0 (change_refusal before)
      (passed (eqb→eq _ _ p.1.0)
      (passed (record { above = ltb→lt _ _ p.1.1.0; below = ltb→lt _ _ p.1.1.1.0 })
      (passed
      (record {
        first = ltb→lt _ _ q.0;
        second = ltb→lt _ _ q.1.0;
        apart = λ e. T_not (eqb a b) q.1.1.0 (rw e (eqb_refl b));
      })
      (h p.0 q.1.1.1.0))))

  module _ (ok : T (accepted? s)) (w : T (path? s a rs b)) where
    path : PathBetween s (nodes_of s) a rs b
    path = is_path s a rs b w

    one : {ts : List ℕ} → PathBetween s (nodes_of s) a ts b → ts ≡ rs
    one q = path_only s ok q path

    long : bound_of s < Sum (length_of s) rs → ¬ InReach s (nodes_of s) (bound_of s) a b
    long h r = omega (arith, ap (Sum (length_of s)) (one r.path), r.short)

    on_path : {r : ℕ} → Taken s before (nodes_of s) a b r → In r rs
    on_path t = rw (one t.path) at t.on

    taken_of : (r : ℕ) → T (taken? r) → Taken s before (nodes_of s) a b r
    taken_of r t =
        let x = both (has r rs) (eqb (at before r) 0) t in
        record { rows = rs; path = path; on = has_in r rs x.0; free = eqb→eq _ _ x.1 }

    of_taken : (r : ℕ) → Taken s before (nodes_of s) a b r → T (taken? r)
    of_taken r t = and (has r rs) (eqb (at before r) 0) (in_has (on_path t)) (rw t.free (eqb_refl 0))

  -- claimed: k marks became the run's
  module _ (k : ℕ) (after : List ℕ) where
    abbrev right : ℕ → Bool
    right r = eqb (at after r) (cond (taken? r) run (at before r))

    abbrev counted : ℕ → Bool
    counted r = cond (eqb (at before r) 0) (has r (frees rs)) true

    abbrev done_tests : List Bool
    done_tests =
        eqb (length after) (length before) ∷ leb (Sum (length_of s) rs) (bound_of s) ∷ below right (length before)
        ∷ throughout (λ r. ltb r (length before)) rs ∷ no_repeat (frees rs) ∷ throughout taken? (frees rs)
        ∷ throughout counted rs ∷ eqb (length (frees rs)) k ∷ taken? (at (frees rs) 0) ∷ []

    unfoldable pub claimed? : Bool
    claimed? = every path_tests && every done_tests

    module _ (ok : T (accepted? s)) (w : T (path? s a rs b)) where
      changes : T (every done_tests) → Changes (Taken s before (nodes_of s) a b) run before after k
      changes t =
          let q = every_passed done_tests t in
          let z = q.1.1 in
          let m : length after ≡ length before = eqb→eq _ _ q.0 in
          record {
            same_many = m;
            becomes = λ r k. eqb→eq _ _
                (below_all right (length before) z.0 r
                (ltb→lt _ _ (throughout_in (λ r. ltb r (length before)) rs z.1.0 r (on_path ok w k))))
                ∙ cond_yes (taken? r) run (at before r) (of_taken ok w r k);
            stays = λ r k. stay r k m z.0 (dec_lt r (length before));
            count = record {
              list = frees rs;
              once = no_repeat_distinct (frees rs) z.1.1.0;
              only = λ r i. taken_of ok w r (throughout_in taken? (frees rs) z.1.1.1.0 r i);
              all = λ r k. has_in r (frees rs)
                  (free_in r k.free (throughout_in counted rs z.1.1.1.1.0 r (on_path ok w k)));
              long = eqb→eq _ _ z.1.1.1.1.1.0;
            };
          }
        where
          stay : (r : ℕ) → (Taken s before (nodes_of s) a b r → ⊥) → length after ≡ length before
              → T (below right (length before)) → Dec (r < length before) → at after r ≡ at before r
          stay r k m t (yes h) =
              eqb→eq _ _ (below_all right (length before) t r h)
              ∙ cond_no (taken? r) run (at before r) (λ x. k (taken_of ok w r x))
          stay r k m t (no h) =
              get_or-eq_default after 0 (omega arith) ∙ sym (get_or-eq_default before 0 (omega arith))

          free_in : (r : ℕ) → at before r ≡ 0 → T (counted r) → T (has r (frees rs))
          free_in r f t = rw (cond_yes (eqb (at before r) 0) (has r (frees rs)) true (rw f (eqb_refl 0))) at t

    pub is_claimed : T claimed? → Claims s before run a b (Ok k, after)
    unfolding claimed?
    is_claimed t =
        let x = both (every path_tests) (every done_tests) t in
        let q = every_passed done_tests x.1 in
        along x.0 (Ok k, after)
        (λ ok w. passed (record { rows = rs; path = path ok w; short = leb→le _ _ q.1.0 })
        (passed
        (at (frees rs) 0, taken_of ok w (at (frees rs) 0) q.1.1.1.1.1.1.1.1.0)
        (changes ok w x.1)))

  -- refused: too long; or none free
  module _ (why : Refusal) (after : List ℕ) where
    abbrev refused_tests : List Bool
    refused_tests = eqb why.row 0 ∷ eqb why.ring 0 ∷ same after before ∷ []

    abbrev none_tests : List Bool
    none_tests =
        eqb why.number 19 ∷ leb (Sum (length_of s) rs) (bound_of s) ∷ throughout (λ r. not (eqb (at before r) 0)) rs
        ∷ []

    abbrev refused_ended : Bool
    refused_ended = cond (eqb why.number 18) (ltb (bound_of s) (Sum (length_of s) rs)) (every none_tests)

    unfoldable pub refused? : Bool
    refused? = every path_tests && (every refused_tests && refused_ended)

    is_refusal : (k : ℕ) → T (every refused_tests) → why.number ≡ k → (Err why, after) ≡ change_refusal before k 0 0
    is_refusal k t n =
        let q = every_passed refused_tests t in
        let r : why.row ≡ 0 = eqb→eq _ _ q.0 in
        let g : why.ring ≡ 0 = eqb→eq _ _ q.1.0 in
        let m : after ≡ before = same_is _ _ q.1.1.0 in
        λ i. change_refusal (m i) (n i) (r i) (g i)

    refused_on : T (every refused_tests) → T refused_ended → T (accepted? s) → T (path? s a rs b)
        → Ended s (nodes_of s) (bound_of s) before run a b (Err why, after)
    refused_on l t ok w = pick (eqb why.number 18) (λ e. eqb→eq _ _ e) t
      where
        turn : (x : Change × List ℕ) → (Err why, after) ≡ x → Ended s (nodes_of s) (bound_of s) before run a b x
            → Ended s (nodes_of s) (bound_of s) before run a b (Err why, after)
        turn x e h = rw e h

        pick : (c : Bool) → (T c → why.number ≡ 18)
            → T (cond c (ltb (bound_of s) (Sum (length_of s) rs)) (every none_tests))
            → Ended s (nodes_of s) (bound_of s) before run a b (Err why, after)
        pick true n t =
            turn (change_refusal before 18 0 0) (is_refusal 18 l (n tt)) (refused (long ok w (ltb→lt _ _ t)))
        pick false n t =
            let q = every_passed none_tests t in
            turn (change_refusal before 19 0 0) (is_refusal 19 l (eqb→eq _ _ q.0))
            (passed (record { rows = rs; path = path ok w; short = leb→le _ _ q.1.0 })
            (refused
            (λ f. T_not (eqb (at before f.0) 0)
            (throughout_in (λ r. not (eqb (at before r) 0)) rs q.1.1.0 f.0 (on_path ok w f.1))
            (rw f.1.free (eqb_refl 0)))))

    pub is_refused : T refused? → Claims s before run a b (Err why, after)
    unfolding refused?
    is_refused t =
        let x = both (every path_tests) (every refused_tests && refused_ended) t in
        let y = both (every refused_tests) refused_ended x.1 in
        along x.0 (Err why, after) (refused_on y.0 y.1)
