-- A net hung up at node 0: `up x` is said to be the parent of x, and `by x` the row to it. Tested row by row; then each
-- node's head is found by the laws of the spines.
use Prim.Native.Nat.{ℕ, suc, ◌-◌, ◌<◌}
use mathlib.Core.Logic.{◌⊎◌, inl, inr, ◌≢◌}
use mathlib.Core.Bool.{Bool, true, false, ◌&&◌, ◌||◌, cond}
use mathlib.Core.List.{List, [], ◌∷◌}
use native.Mathlib.Omega.{arith}
use native.Mathlib.Decide.{dec_lt}
use lib.Dec.{T, eqb, ltb, eqb→eq, ltb→lt}
use Rattle.table.specs.Header.{nodes_of}
use Rattle.net.specs.Graph.{Ends}
use Rattle.net.specs.Net.{first_end, second_end}
use Rattle.net.specs.work.Rooted.{Rooted}
use Rattle.net.proofs.Above.{Tree}
use Rattle.net.proofs.Joined.{joined_trans, joined_sym}
use Rattle.net.proofs.Labels.{both}
use Rattle.spines.specs.Spine.{Head}
use Rattle.spines.specs.Heads.{HeadOf}
use Rattle.spines.specs.work.Parents.{Child}
use Rattle.spines.proofs.Head.{head_some}
use Rattle.spines.proofs.Net.{head_net}
use Rattle.worked.proofs.Tests.{either, every, every_passed, below, below_all}
use Rattle.worked.proofs.Accepted.{accepted?, net}

pub self_less : (x : ℕ) → x < suc x
self_less x = omega arith

module _ (up by : ℕ → ℕ) (s : List ℕ) where
  -- a parent is the lower node
  unfoldable pub par : ℕ → ℕ
  par x = cond (ltb (up x) x) (up x) 0

  par_less : (x : ℕ) → x ≢ 0 → par x < x
  unfolding par
  par_less x z = pick (ltb (up x) x) (λ t. ltb→lt _ _ t)
    where
      pick : (b : Bool) → (T b → up x < x) → cond b (up x) 0 < x
      pick true f = f tt
      pick false f = omega arith

  pub hung : Tree (nodes_of s) par (λ x. x)
  hung = record { fits = λ x b z. omega (arith, par_less x z); earlier = λ x b z. par_less x z; within = λ x b. b }

  abbrev joins : ℕ → Bool
  joins x =
      (eqb (first_end s (by x)) x && eqb (second_end s (by x)) (par x)) ||
      (eqb (first_end s (by x)) (par x) && eqb (second_end s (by x)) x)

  abbrev hang_tests : ℕ → List Bool
  hang_tests x = ltb (by x) (nodes_of s - 1) ∷ joins x ∷ []

  unfoldable pub hangs? : Bool
  hangs? = below (λ x. eqb x 0 || every (hang_tests x)) (nodes_of s)

  hangs : T hangs? → (x : ℕ) → x < nodes_of s → x ≢ 0 → T (every (hang_tests x))
  unfolding hangs?
  hangs t x b z =
      pick
      (either (eqb x 0) (every (hang_tests x)) (below_all (λ x. eqb x 0 || every (hang_tests x)) (nodes_of s) t x b))
    where
      pick : T (eqb x 0) ⊎ T (every (hang_tests x)) → T (every (hang_tests x))
      pick (inl e) = absurd (z (eqb→eq x 0 e))
      pick (inr h) = h

  ends : (x : ℕ) → T (joins x) → Ends (first_end s) (second_end s) (by x) x (par x)
  ends x t =
      pick
      (either (eqb (first_end s (by x)) x && eqb (second_end s (by x)) (par x))
      (eqb (first_end s (by x)) (par x) && eqb (second_end s (by x)) x) t)
    where
      pick : T (eqb (first_end s (by x)) x && eqb (second_end s (by x)) (par x))
          ⊎ T (eqb (first_end s (by x)) (par x) && eqb (second_end s (by x)) x)
          → Ends (first_end s) (second_end s) (by x) x (par x)
      pick (inl h) =
          let p = both (eqb (first_end s (by x)) x) (eqb (second_end s (by x)) (par x)) h in
          inl (eqb→eq _ _ p.0, eqb→eq _ _ p.1)
      pick (inr h) =
          let p = both (eqb (first_end s (by x)) (par x)) (eqb (second_end s (by x)) x) h in
          inr (eqb→eq _ _ p.0, eqb→eq _ _ p.1)

  -- the head of x
  unfoldable pub head_at : ℕ → ℕ
  head_at x = elim (dec_lt x (nodes_of s)) [ yes b ↦ (head_some hung (suc x) x b (self_less x)).0 | no m ↦ 0 ]

  head_at_lem : (x : ℕ) → x < nodes_of s → Head (Child (nodes_of s) par) (nodes_of s) (head_at x) x
  unfolding head_at
  head_at_lem x b = pick (dec_lt x (nodes_of s))
    where
      pick : (d : Dec (x < nodes_of s))
          → Head (Child (nodes_of s) par) (nodes_of s)
          (elim d as (λ d. ℕ) [ yes b ↦ (head_some hung (suc x) x b (self_less x)).0 | no m ↦ 0 ]) x
      pick (yes b) = (head_some hung (suc x) x b (self_less x)).1
      pick (no m) = absurd (m b)

  module _ (ok : T (accepted? s)) (t : T hangs?) where
    pub rooted : Rooted (first_end s) (second_end s) (nodes_of s - 1) (nodes_of s) par by (λ x. x)
    rooted =
        let n = net s ok in
        record {
          forest = n.forest;
          fits = λ r b. (n.first r b, n.second r b);
          all = λ a b l k. joined_trans (first_end s) (second_end s)
              (joined_sym (first_end s) (second_end s) (n.joined a l)) (n.joined b k);
          row_fits = λ x b z. ltb→lt _ _ (every_passed (hang_tests x) (hangs t x b z)).0;
          par_fits = λ x b z. hung.fits x b z;
          ends = λ x b z. ends x (every_passed (hang_tests x) (hangs t x b z)).1.0;
          earlier = λ x b z. par_less x z;
        }

    pub head_is : (x : ℕ) → x < nodes_of s → HeadOf s (nodes_of s) (head_at x) x
    head_is x b = head_net rooted hung (omega arith) (head_at_lem x b)
