-- Heads and leaves: an outcome that passes the test is the one promised; a list that passes is that of the leaves.
use Prim.Native.Nat.{ℕ, ◌-◌, ◌<◌}
use mathlib.Core.Path.{◌≡◌}
use mathlib.Core.Logic.{◌⊎◌, inl, inr}
use mathlib.Core.Bool.{Bool, not, ◌||◌}
use mathlib.Core.List.{List, [], ◌∷◌}
use native.Mathlib.Omega.{arith}
use native.Mathlib.Decide.{ℕ_discrete}
use lib.Dec.{T, eqb, ltb, eqb_refl, eqb→eq, ltb→lt, T_not, not_T}
use lib.ListN.{length}
use Rattle.std.specs.Prelude.{Ok}
use Rattle.arrays.specs.At.{at}
use Rattle.table.specs.Refuse.{passed}
use Rattle.table.specs.Header.{nodes_of}
use Rattle.net.specs.Net.{first_end, second_end}
use Rattle.spines.specs.Spine.{ChildOf, Leaf}
use Rattle.spines.specs.Heads.{HeadOf, heads_refusal, Headings}
use Rattle.spines.specs.work.Parents.{Child}
use Rattle.spines.proofs.Same.{same_leaf}
use Rattle.spines.proofs.Net.{child_net, net_child}
use Rattle.worked.specs.Case.{LeavesAre}
use Rattle.worked.proofs.Tests.{
  either,
  left_or,
  right_or,
  every,
  every_passed,
  below,
  below_all,
  below_from,
  throughout,
  throughout_in,
  has,
  has_in,
}
use Rattle.worked.proofs.Accepted.{accepted?, begins}
use Rattle.worked.proofs.Hung.{par, hung, hangs?, head_at, rooted, head_is}

module _ (up by : ℕ → ℕ) (s before list : List ℕ) where
  abbrev right : ℕ → Bool
  right x = eqb (head_at up by s x) (at list x)

  abbrev tests : List Bool
  tests =
      accepted? s ∷ hangs? up by s ∷ eqb (length before) (nodes_of s) ∷ eqb (length list) (nodes_of s)
      ∷ below right (nodes_of s) ∷ []

  unfoldable pub heads? : Bool
  heads? = every tests

  pub is_heads : T heads? → Headings s before (Ok tt, list)
  unfolding heads?
  is_heads t =
      let p = every_passed tests t in
      let q = p.1.1 in
      begins s p.0 (heads_refusal before)
      (passed (eqb→eq _ _ q.0) (
        eqb→eq _ _ q.1.0,
        λ v b. turn v (at list v) (eqb→eq _ _ (below_all right (nodes_of s) q.1.1.0 v b))
            (head_is up by s p.0 p.1.0 v b),
      ))
    where
      turn : (v h : ℕ) → head_at up by s v ≡ h → HeadOf s (nodes_of s) (head_at up by s v) v → HeadOf s (nodes_of s) h v
      turn v h e k = rw (← e) k

module _ (up by : ℕ → ℕ) (s nodes : List ℕ) where
  abbrev no_child : ℕ → ℕ → Bool
  no_child x c = eqb c 0 || not (eqb (par up by s c) x)

  abbrev childless : ℕ → Bool
  childless x = below (no_child x) (nodes_of s)

  abbrev listed : ℕ → Bool
  listed x = has x nodes || not (childless x)

  abbrev leaf_tests : List Bool
  leaf_tests =
      accepted? s ∷ hangs? up by s ∷ throughout (λ x. ltb x (nodes_of s)) nodes ∷ throughout childless nodes
      ∷ below listed (nodes_of s) ∷ []

  unfoldable pub leaves? : Bool
  leaves? = every leaf_tests

  abbrev Leafy : ℕ → Type 0
  Leafy x = Leaf (Child (nodes_of s) (par up by s)) (nodes_of s) x

  leaf_of : (x : ℕ) → x < nodes_of s → T (childless x) → Leafy x
  leaf_of x b t =
      record {
        fits = b;
        none = λ c k. pick c k
            (either (eqb c 0) (not (eqb (par up by s c) x)) (below_all (no_child x) (nodes_of s) t c k.fits));
      }
    where
      pick : (c : ℕ) → Child (nodes_of s) (par up by s) x c → T (eqb c 0) ⊎ T (not (eqb (par up by s c) x)) → ⊥
      pick c k (inl e) = k.low (eqb→eq c 0 e)
      pick c k (inr n) = T_not (eqb (par up by s c) x) n (rw k.of (eqb_refl x))

  of_leaf : (x : ℕ) → Leafy x → T (childless x)
  of_leaf x l = below_from (no_child x) (nodes_of s) (λ c b. pick c b (ℕ_discrete c 0))
    where
      pick : (c : ℕ) → c < nodes_of s → Dec (c ≡ 0) → T (no_child x c)
      pick c b (yes e) = left_or (eqb c 0) (not (eqb (par up by s c) x)) (rw e (eqb_refl 0))
      pick c b (no z) =
          right_or (eqb c 0) (not (eqb (par up by s c) x))
          (not_T (eqb (par up by s c) x) (λ t. l.none c (record { fits = b; low = z; of = eqb→eq _ _ t })))

  pub are_leaves : T leaves? → LeavesAre s nodes
  unfolding leaves?
  are_leaves t =
      let p = every_passed leaf_tests t in
      let q = p.1.1 in
      record {
        only = λ x i.
            let b : x < nodes_of s = ltb→lt _ _ (throughout_in (λ x. ltb x (nodes_of s)) nodes q.0 x i) in
            same_leaf (to p.0 p.1.0 b) (fro p.0 p.1.0 b) x
            (leaf_of x b (throughout_in childless nodes q.1.0 x i));
        all = λ x l. has_in x nodes
            (pick x (of_leaf x (same_leaf (fro p.0 p.1.0 l.fits) (to p.0 p.1.0 l.fits) x l))
            (either (has x nodes) (not (childless x)) (below_all listed (nodes_of s) q.1.1.0 x l.fits)));
      }
    where
      to : T (accepted? s) → T (hangs? up by s) → {x : ℕ} → x < nodes_of s → (p c : ℕ)
          → Child (nodes_of s) (par up by s) p c → ChildOf (first_end s) (second_end s) (nodes_of s - 1) (nodes_of s) p
          c
      to ok h b p c k = child_net (rooted up by s ok h) (hung up by s) (omega arith) p c k

      fro : T (accepted? s) → T (hangs? up by s) → {x : ℕ} → x < nodes_of s → (p c : ℕ)
          → ChildOf (first_end s) (second_end s) (nodes_of s - 1) (nodes_of s) p c → Child (nodes_of s) (par up by s) p
          c
      fro ok h b p c k = net_child (rooted up by s ok h) (hung up by s) (omega arith) p c k

      pick : (x : ℕ) → T (childless x) → T (has x nodes) ⊎ T (not (childless x)) → T (has x nodes)
      pick x c (inl h) = h
      pick x c (inr n) = absurd (T_not (childless x) n c)
