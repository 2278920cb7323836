-- The first k rows of a forest leave its n nodes in n − k groups. Without a row each node is a group by itself. A row
-- that closes no ring has its ends in two groups and makes one of them: of their two lowest nodes the higher is lowest
-- no more, and every other lowest node stays one. So n − 1 rows leave one group, that of node 0.
use Prim.Native.Nat.{ℕ, zero, suc, ◌+◌, ◌-◌, ◌≤◌, ◌<◌}
use mathlib.Core.Path.{◌≡◌, refl, sym}
use mathlib.Core.Logic.{◌⊎◌, inl, inr, ◌≢◌, ⊎_elim}
use native.Mathlib.Omega.{arith}
use native.Mathlib.Decide.{dec_lt}
use Rattle.net.specs.Graph.{First, Joined, RingAt}
use Rattle.net.specs.work.Forest.{Forest}
use Rattle.net.specs.work.Rows.{RowsFit}
use Rattle.net.proofs.Rows.{End, fit_less}
use Rattle.net.proofs.Joined.{alone, joined_refl, joined_step, joined_trans, joined_sym, joined_up}
use Rattle.net.proofs.Bridge.{through}
use Rattle.net.proofs.Labels.{joined?}
use Rattle.net.proofs.Counts.{count_unique, count_same, count_lone, count_more, count_dec, count_all}
use Rattle.tree.specs.Groups.{Lowest, Groups}
use Rattle.tree.proofs.Least.{NoneOrLeast, none_or_least}

module _ (u v : ℕ → ℕ) where
  -- the first k rows join a and b
  abbrev J : ℕ → ℕ → ℕ → Type 0
  J k = Joined u v (First k)

  -- The lowest node of a group is no higher than any other of it, so a group has one only;
  lowest_le : {k x y : ℕ} → Lowest u v k x → J k x y → x ≤ y
  lowest_le {k} {x} {y} h w = pick (dec_lt y x)
    where
      pick : Dec (y < x) → x ≤ y
      pick (yes b) = absurd (h y b (joined_sym u v w))
      pick (no b) = omega arith

  lowest_one : {k x y : ℕ} → Lowest u v k x → Lowest u v k y → J k x y → x ≡ y
  lowest_one h g w = omega (arith, lowest_le h w, lowest_le g (joined_sym u v w))

  -- and which it is is decided: the least that is joined to a given one
  least_joined : (k x m : ℕ) → NoneOrLeast (λ y. J k y x) m
  least_joined k x = none_or_least (λ y. J k y x) (λ y. joined? u v k y x)

  lowest? : (k x : ℕ) → Dec (Lowest u v k x)
  lowest? k x = pick (least_joined k x x)
    where
      pick : NoneOrLeast (λ y. J k y x) x → Dec (Lowest u v k x)
      pick (inl none) = yes none
      pick (inr t) = no (λ h. h t.0 t.1 t.2)

  abbrev LowestOf : ℕ → ℕ → Type 0
  LowestOf k x = (y : ℕ) × (y ≤ x) × J k y x × Lowest u v k y

  lowest_of : (k x : ℕ) → LowestOf k x
  lowest_of k x = pick (least_joined k x (suc x))
    where
      pick : NoneOrLeast (λ y. J k y x) (suc x) → LowestOf k x
      pick (inl none) = absurd (none x (omega arith) (joined_refl u v x))
      pick (inr t) = (t.0, omega (arith, t.1), t.2, λ z b w. t.3 z b (joined_trans u v w t.2))

  -- No rows: every node is the lowest of its group
  each_alone : (n : ℕ) → Groups u v 0 n n
  each_alone n = count_same (λ x b. (b, own x)) (λ x h. h.0) (count_all n)
    where
      own : (x : ℕ) → Lowest u v 0 x
      own x y b w = omega (arith, alone u v (λ r h. omega arith) w)

  -- One row more, each of its ends in the group of lo or of hi
  module _ {k lo hi : ℕ} (l : lo < hi) (low : Lowest u v k lo) (high : Lowest u v k hi)
      (held : (x : ℕ) → End u v k x → J k lo x ⊎ J k hi x) where
    lo_le : {x y : ℕ} → End u v k x → J k x y → lo ≤ y
    lo_le {x} e w =
        ⊎_elim (λ t. lowest_le low (joined_trans u v t w))
        (λ t. omega (arith, l, lowest_le high (joined_trans u v t w))) (held x e)

    is_lo : {x y : ℕ} → Lowest u v k y → y ≢ hi → End u v k x → J k x y → y ≡ lo
    is_lo {x} h n e w =
        ⊎_elim (λ t. sym (lowest_one low h (joined_trans u v t w)))
        (λ t. absurd (n (sym (lowest_one high h (joined_trans u v t w))))) (held x e)

    stays_lowest : (x : ℕ) → Lowest u v k x → x ≢ hi → Lowest u v (suc k) x
    stays_lowest x h n y b w = pick (through u v w)
      where
        pick : J k y x ⊎ ((a : ℕ) × (c : ℕ) × End u v k a × End u v k c × J k y a × J k c x) → ⊥
        pick (inl t) = h y b t
        pick (inr t) = omega (arith, b, is_lo h n t.3 t.5, lo_le t.2 (joined_sym u v t.4))

    -- the lowest nodes before are hi and those after
    one_less : {n p : ℕ} → hi < n → J (suc k) lo hi → Groups u v (suc k) n p → Groups u v k n (suc p)
    one_less b w =
        count_more hi (b, high) (λ h. h.1 lo l w) (λ x h m. (h.0, stays_lowest x h.1 m))
        (λ x h. (h.0, λ y d t. h.1 y d (joined_up u v t)))

  -- a row that closes no ring makes one group of two
  two_made_one : (k n p : ℕ) → ¬ RingAt u v k → u k < n → v k < n → Groups u v (suc k) n p → Groups u v k n (suc p)
  two_made_one k n p apart fu fv c = pick (dec_lt a.0 b.0)
    where
      a : LowestOf k (u k)
      a = lowest_of k (u k)

      b : LowestOf k (v k)
      b = lowest_of k (v k)

      differ : a.0 ≢ b.0
      differ e = apart (joined_trans u v (joined_sym u v a.2) (rw e b.2))

      across : J (suc k) a.0 b.0
      across =
          joined_trans u v (joined_up u v a.2)
          (joined_step u v (omega arith) (inl (refl, refl)) (joined_up u v (joined_sym u v b.2)))

      ends_at : {x y z : ℕ} → y ≡ z → J k x y → J k x z
      ends_at e w = rw e at w

      held : (x : ℕ) → End u v k x → J k a.0 x ⊎ J k b.0 x
      held x (inl e) = inl (ends_at e a.2)
      held x (inr e) = inr (ends_at e b.2)

      pick : Dec (a.0 < b.0) → Groups u v k n (suc p)
      pick (yes l) = one_less l a.3 b.3 held (omega (arith, b.1)) across c
      pick (no l) =
          one_less (omega (arith, differ)) b.3 a.3 (λ x e. ⊎_elim inr inl (held x e)) (omega (arith, a.1))
          (joined_sym u v across) c

  -- All rows
  add_up : (k n p : ℕ) → Forest u v k → RowsFit u v k n → Groups u v k n p → p + k ≡ n
  add_up zero n p f e c = omega (arith, count_unique c (each_alone n))
  add_up (suc k) n p f e c =
      omega (
        arith,
        add_up k n (suc p) (λ r h. f r (omega arith))
            (fit_less (omega arith) e)
            (two_made_one k n p (f k (omega arith)) (e.first k (omega arith)) (e.second k (omega arith)) c),
      )

  pub groups_left : (k n : ℕ) → Forest u v k → RowsFit u v k n → Groups u v k n (n - k)
  groups_left k n f e =
      let t = count_dec n (lowest? k) in
      let q : t.0 ≡ n - k = omega (arith, add_up k n t.0 f e t.1) in
      rw q at t.1

  -- n − 1 rows leave one group, whose lowest node is node 0
  pub all_joined : (n : ℕ) → Forest u v (n - 1) → RowsFit u v (n - 1) n → (x : ℕ) → x < n → J (n - 1) 0 x
  all_joined n f e x b =
      let y = lowest_of (n - 1) x in
      let one : n - (n - 1) ≡ 1 = omega arith in
      let zeroth : (0 < n) × Lowest u v (n - 1) 0 = (omega arith, λ z h. absurd (omega arith)) in
      let q : y.0 ≡ 0 = count_lone (rw one at (groups_left (n - 1) n f e)) (omega (arith, y.1), y.3) zeroth in
      rw q at y.2
