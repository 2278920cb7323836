-- Labels: a number for each node, the same at two nodes exactly where the first k rows join them. So joined is decided,
-- and computes.
use Prim.Native.Nat.{ℕ, zero, suc, ◌<◌}
use mathlib.Core.Path.{◌≡◌, refl, sym, ◌∙◌}
use mathlib.Core.Logic.{inl, inr, ◌≢◌}
use mathlib.Core.List.{List}
use native.Mathlib.Omega.{arith}
use native.Mathlib.Nat.{not-suc-le-zero}
use native.Mathlib.Decide.{ℕ_discrete, map_dec}
use mathlib.Core.Bool.{Bool, true, false, not, ◌&&◌}
use lib.Dec.{T, eqb, eqb_refl, T_not}
use Rattle.net.specs.Graph.{First, Ends, Walk, stop, go, Joined}
use Rattle.net.specs.work.Forest.{Forest}
use Rattle.net.proofs.Joined.{joined_refl, joined_step, joined_trans, joined_sym, joined_up}

-- two tests, both passed
pub both : (a b : Bool) → T (a && b) → T a × T b
both true true t = (tt, tt)
both true false t = absurd t
both false true t = absurd t
both false false t = absurd t

-- q where z is p, and z otherwise
unfoldable pub relabel : ℕ → ℕ → ℕ → ℕ
relabel p q z = elim (ℕ_discrete z p) [ yes e ↦ q | no n ↦ z ]

pub relabel_hit : (p q z : ℕ) → z ≡ p → relabel p q z ≡ q
unfolding relabel
relabel_hit p q z e = pick (ℕ_discrete z p)
  where
    pick : (d : Dec (z ≡ p)) → (elim d as (λ d. ℕ) [ yes e ↦ q | no n ↦ z ]) ≡ q
    pick (yes e) = refl
    pick (no n) = absurd (n e)

pub relabel_miss : (p q z : ℕ) → z ≢ p → relabel p q z ≡ z
unfolding relabel
relabel_miss p q z n = pick (ℕ_discrete z p)
  where
    pick : (d : Dec (z ≡ p)) → (elim d as (λ d. ℕ) [ yes e ↦ q | no n ↦ z ]) ≡ z
    pick (yes e) = absurd (n e)
    pick (no n) = refl

module _ (u v : ℕ → ℕ) where
  -- what is the same at the two ends of each row is the same at joined nodes
  pub walk_constant : {P : ℕ → Type 0} {a b : ℕ} {rs ns : List ℕ} (f : ℕ → ℕ) → ((r : ℕ) → P r → f (u r) ≡ f (v r))
      → Walk u v P a rs ns b → f a ≡ f b
  walk_constant f c stop = refl
  walk_constant {b} f c (go {r} {a} {c = x} h e w) = side e (c r h) ∙ walk_constant f c w
    where
      side : Ends u v r a x → f (u r) ≡ f (v r) → f a ≡ f x
      side (inl e) q = cc
      side (inr e) q = cc

  pub joined_constant : {P : ℕ → Type 0} {a b : ℕ} (f : ℕ → ℕ) → ((r : ℕ) → P r → f (u r) ≡ f (v r)) → Joined u v P a b
      → f a ≡ f b
  joined_constant f c w = walk_constant f c w.2

  -- the label of a node once the rows below k have been seen
  unfoldable pub label : ℕ → ℕ → ℕ
  label zero x = x
  label (suc k) x = relabel (label k (u k)) (label k (v k)) (label k x)

  label_ends : (k s : ℕ) → s < k → label k (u s) ≡ label k (v s)
  unfolding label
  label_ends zero s h = absurd (not-suc-le-zero h)
  label_ends (suc k) s h = pick (ℕ_discrete s k) (label_ends k s) (ℕ_discrete (label k (v k)) (label k (u k)))
    where
      pick : Dec (s ≡ k) → (s < k → label k (u s) ≡ label k (v s)) → Dec (label k (v k) ≡ label k (u k))
          → label (suc k) (u s) ≡ label (suc k) (v s)
      pick (no n) ih d = rw (ih (omega arith))
      pick (yes e) ih (yes q) = rw (e, q)
      pick (yes e) ih (no n) = rw (e, relabel_hit _ _ (label k (u k)) refl, relabel_miss _ _ _ n)

  pub joined_label : {k a b : ℕ} → Joined u v (First k) a b → label k a ≡ label k b
  joined_label {k} w = joined_constant (label k) (label_ends k) w

  label_joined : (k a b : ℕ) → label k a ≡ label k b → Joined u v (First k) a b
  unfolding label
  label_joined zero a b e = rw e (joined_refl u v b)
  label_joined (suc k) a b e =
      pick (ℕ_discrete (label k a) (label k (u k))) (ℕ_discrete (label k b) (label k (u k))) (label_joined k)
    where
      cross : {x y : ℕ} → Joined u v (First k) x (u k) → Joined u v (First k) (v k) y → Joined u v (First (suc k)) x y
      cross w t =
          joined_trans u v (joined_up u v w) (joined_step u v (omega arith) (inl (refl, refl)) (joined_up u v t))

      pick : Dec (label k a ≡ label k (u k)) → Dec (label k b ≡ label k (u k))
          → ((x y : ℕ) → label k x ≡ label k y → Joined u v (First k) x y) → Joined u v (First (suc k)) a b
      pick (yes p) (yes q) ih = joined_up u v (ih a b (cc))
      pick (yes p) (no q) ih = cross (ih a (u k) p) (ih (v k) b (sym (relabel_hit _ _ _ p) ∙ e ∙ relabel_miss _ _ _ q))
      pick (no p) (yes q) ih =
          joined_sym u v (cross (ih b (u k) q) (ih (v k) a (sym (relabel_hit _ _ _ q) ∙ sym e ∙ relabel_miss _ _ _ p)))
      pick (no p) (no q) ih = joined_up u v (ih a b (sym (relabel_miss _ _ _ p) ∙ e ∙ relabel_miss _ _ _ q))

  pub joined? : (k a b : ℕ) → Dec (Joined u v (First k) a b)
  joined? k a b = map_dec (label_joined k a b) joined_label (ℕ_discrete (label k a) (label k b))

  pub forest_zero : Forest u v 0
  forest_zero r h = absurd (not-suc-le-zero h)

  -- one row more: where its ends have different labels there is still no ring
  pub forest_suc : (k : ℕ) → Forest u v k → label k (u k) ≢ label k (v k) → Forest u v (suc k)
  forest_suc k f n r h = pick (ℕ_discrete r k)
    where
      pick : Dec (r ≡ k) → ¬ Joined u v (First r) (u r) (v r)
      pick (yes e) = rw e (λ w. n (joined_label w))
      pick (no m) = f r (omega arith)

  -- the test that computes
  unfoldable pub grows : ℕ → Bool
  grows zero = true
  grows (suc k) = grows k && not (eqb (label k (u k)) (label k (v k)))

  pub grows_forest : (k : ℕ) → T (grows k) → Forest u v k
  unfolding grows
  grows_forest zero t = forest_zero
  grows_forest (suc k) t =
      let x : ℕ = label k (u k) in
      let y : ℕ = label k (v k) in
      let b : T (grows k) × T (not (eqb x y)) = both (grows k) (not (eqb x y)) t in
      forest_suc k (grows_forest k b.0) (λ e. T_not (eqb x y) b.1 (rw e (eqb_refl y)))
