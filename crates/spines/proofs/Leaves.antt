-- Leaves below a node: two children have no more than their parent, and every node has some, a number that can be
-- found.
use Prim.Native.Nat.{ℕ, zero, suc, ◌+◌, ◌≤◌, ◌<◌}
use mathlib.Core.Path.{◌≡◌, refl}
use mathlib.Core.Logic.{◌⊎◌, inl, inr, ◌≢◌, ⊎_elim}
use native.Mathlib.Omega.{arith}
use native.Mathlib.Decide.{ℕ_discrete, dec_lt}
use Rattle.net.specs.work.Rooted.{Above, self, up}
use Rattle.net.proofs.Rooted.{above_inv}
use Rattle.net.proofs.Counts.{count_le, count_same, count_add, count_dec, count_some}
use Rattle.net.proofs.Above.{Tree, above_trans}
use Rattle.spines.specs.Spine.{Leaf, LeafUnder, Leaves}
use Rattle.spines.specs.work.Parents.{Child}
use Rattle.spines.proofs.Below.{leaf_above, leaf_under, child_later, child_below, via_one}

-- is there one below n
unfoldable pub some? : {P : ℕ → Type 0} → ((x : ℕ) → Dec (P x)) → (n : ℕ) → Dec ((x : ℕ) × (x < n) × P x)
some? d zero = no (λ t. omega (arith, t.1))
some? {P} d (suc n) = pick (d n) (some? d n)
  where
    pick : Dec (P n) → Dec ((x : ℕ) × (x < n) × P x) → Dec ((x : ℕ) × (x < suc n) × P x)
    pick (yes p) s = yes (n, omega arith, p)
    pick (no m) (yes t) = yes (t.0, omega (arith, t.1), t.2)
    pick (no m) (no s) = no (λ t. last t (ℕ_discrete t.0 n))
      where
        last : (t : (x : ℕ) × (x < suc n) × P x) → Dec (t.0 ≡ n) → ⊥
        last t (yes e) = m (rw e at t.2)
        last t (no q) = s (t.0, omega (arith, t.1), t.2)

module _ {n : ℕ} {par : ℕ → ℕ} where
  unfoldable pub child? : (p c : ℕ) → Dec (Child n par p c)
  child? p c = pick (dec_lt c n) (ℕ_discrete c 0) (ℕ_discrete (par c) p)
    where
      pick : Dec (c < n) → Dec (c ≡ 0) → Dec (par c ≡ p) → Dec (Child n par p c)
      pick (yes b) (no z) (yes e) = yes (record { fits = b; low = z; of = e })
      pick (no b) z e = no (λ k. b k.fits)
      pick (yes b) (yes z) e = no (λ k. k.low z)
      pick (yes b) (no z) (no e) = no (λ k. e k.of)

  unfoldable pub leaf? : (x : ℕ) → Dec (Leaf (Child n par) n x)
  leaf? x = pick (dec_lt x n) (some? (child? x) n)
    where
      pick : Dec (x < n) → Dec ((c : ℕ) × (c < n) × Child n par x c) → Dec (Leaf (Child n par) n x)
      pick (no b) s = no (λ l. b l.fits)
      pick (yes b) (yes t) = no (λ l. l.none t.0 t.2)
      pick (yes b) (no m) = yes (record { fits = b; none = λ c k. m (c, k.fits, k) })

module _ {n : ℕ} {par place : ℕ → ℕ} (T : Tree n par place) where
  -- two different children have no more leaves than their parent
  pub leaves_two : {p c d a b k : ℕ} → Child n par p c → Child n par p d → c ≢ d → Leaves (Child n par) n c a
      → Leaves (Child n par) n d b → Leaves (Child n par) n p k → a + b ≤ k
  leaves_two {p} {c} {d} kc kd m la lb lk =
      count_le (λ x h. sub x h)
      (count_add {R = λ x. LeafUnder (Child n par) n c x ⊎ LeafUnder (Child n par) n d x} la lb
      (λ x h j. m (via_one T kc kd (leaf_above h) (leaf_above j))) (λ x h. h) (λ x h. inl h) (λ x h. inr h))
      lk
    where
      sub : (x : ℕ) → LeafUnder (Child n par) n c x ⊎ LeafUnder (Child n par) n d x → LeafUnder (Child n par) n p x
      sub x (inl h) = leaf_under T h.leaf (child_below T kc (leaf_above h))
      sub x (inr h) = leaf_under T h.leaf (child_below T kd (leaf_above h))

  -- nor has any node below it
  pub leaves_up : {t x a k : ℕ} → Above par t x → Leaves (Child n par) n x a → Leaves (Child n par) n t k → a ≤ k
  leaves_up h la lk = count_le (λ x j. leaf_under T j.leaf (above_trans h (leaf_above j))) la lk

  unfoldable pub above? : (t m x : ℕ) → x < n → place x < m → Dec (Above par t x)
  above? t zero x b l = absurd (omega arith)
  above? t (suc m) x b l = pick (ℕ_discrete t x) (ℕ_discrete x 0) (above? t m (par x))
    where
      pick : Dec (t ≡ x) → Dec (x ≡ 0) → (par x < n → place (par x) < m → Dec (Above par t (par x)))
          → Dec (Above par t x)
      pick (yes e) z ih = yes (rw e self)
      pick (no e) (yes z) ih = no (λ h. ⊎_elim e (λ k. k.0 z) (above_inv h))
      pick (no e) (no z) ih = more (ih (T.fits x b z) (omega (arith, T.earlier x b z)))
        where
          more : Dec (Above par t (par x)) → Dec (Above par t x)
          more (yes h) = yes (up z refl h)
          more (no q) = no (λ h. ⊎_elim e (λ k. q k.1) (above_inv h))

  unfoldable pub leaf_under? : (t x : ℕ) → Dec (LeafUnder (Child n par) n t x)
  leaf_under? t x = pick (leaf? x)
    where
      both : Leaf (Child n par) n x → Dec (Above par t x) → Dec (LeafUnder (Child n par) n t x)
      both l (yes a) = yes (leaf_under T l a)
      both l (no a) = no (λ h. a (leaf_above h))

      pick : Dec (Leaf (Child n par) n x) → Dec (LeafUnder (Child n par) n t x)
      pick (yes l) = both l (above? t (suc (place x)) x l.fits (omega arith))
      pick (no l) = no (λ h. l h.leaf)

  unfoldable pub leaves_some : (t : ℕ) → (k : ℕ) × Leaves (Child n par) n t k
  leaves_some t =
      let c = count_dec n (leaf_under? t) in
      (c.0, count_same (λ x h. h.1) (λ x h. (h.leaf.fits, h)) c.1)

  -- how many leaves t has
  unfoldable pub many : ℕ → ℕ
  many t = (leaves_some t).0

  pub many_leaves : (t : ℕ) → Leaves (Child n par) n t (many t)
  unfolding many
  many_leaves t = (leaves_some t).1

  -- every node has a leaf below it
  pub leaf_some : (m x : ℕ) → x < n → n ≤ place x + m → (y : ℕ) × LeafUnder (Child n par) n x y
  leaf_some zero x b l = absurd (omega (arith, T.within x b))
  leaf_some (suc m) x b l = pick (some? (child? x) n) (leaf_some m)
    where
      pick : Dec ((c : ℕ) × (c < n) × Child n par x c)
          → ((c : ℕ) → c < n → n ≤ place c + m → (y : ℕ) × LeafUnder (Child n par) n c y)
          → (y : ℕ) × LeafUnder (Child n par) n x y
      pick (yes t) ih =
          let r = ih t.0 t.1 (omega (arith, child_later T t.2)) in
          (r.0, leaf_under T r.1.leaf (child_below T t.2 (leaf_above r.1)))
      pick (no q) ih = (x, leaf_under T (record { fits = b; none = λ c k. q (c, k.fits, k) }) self)

  pub many_some : (x : ℕ) → x < n → 0 < many x
  many_some x b = let t = leaf_some n x b (omega arith) in count_some t.0 t.1 (many_leaves x)
