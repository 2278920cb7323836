-- 27 and 28 are decided: a text has as many arcs as it has, so that each can be tried, and each of the two refusals is
-- the contrary of its good condition.
use Prim.Native.Nat.{ℕ, zero, suc, ◌<◌}
use mathlib.Core.Path.{◌≡◌, refl, sym}
use mathlib.Core.Logic.{◌⊎◌, inl, inr}
use native.Mathlib.Omega.{arith}
use native.Mathlib.Decide.{ℕ_discrete, dec_lt}
use Rattle.arcs.specs.Arcs.{Arcs, Faulty, Paired, AlongBranch, Names, SameBranches, Differ}

abbrev pub Some : ℕ → (ℕ → Type 0) → Type 0
Some n P = (i : ℕ) × (i < n) × P i

pub some? : (n : ℕ) (P : ℕ → Type 0) → ((i : ℕ) → Dec (P i)) → Dec (Some n P)
some? zero P d = no (λ t. omega (arith, t.1))
some? (suc n) P d = pick (d n) (some? n P d)
  where
    pick : Dec (P n) → Dec (Some n P) → Dec (Some (suc n) P)
    pick (yes p) e = yes (n, omega arith, p)
    pick (no m) (yes t) = yes (t.0, omega (arith, t.1), t.2)
    pick (no m) (no k) = no (λ t. last t (ℕ_discrete t.0 n))
      where
        last : (t : Some (suc n) P) → Dec (t.0 ≡ n) → ⊥
        last t (yes e) = m (rw (e) at t.2)
        last t (no o) = k (t.0, omega (arith, t.1), t.2)

pub three? : {P Q R : Type 0} → Dec P → Dec Q → Dec R → Dec (P × Q × R)
three? (yes p) (yes q) (yes r) = yes (p, q, r)
three? (yes p) (yes q) (no n) = no (λ h. n h.2)
three? (yes p) (no n) d = no (λ h. n h.1)
three? (no n) d e = no (λ h. n h.0)

pub both? : {P Q : Type 0} → Dec P → Dec Q → Dec (P × Q)
both? (yes p) (yes q) = yes (p, q)
both? (yes p) (no n) = no (λ h. n h.1)
both? (no n) d = no (λ h. n h.0)

pub either? : {P Q : Type 0} → Dec P → Dec Q → Dec (P ⊎ Q)
either? (yes p) d = yes (inl p)
either? (no n) (yes q) = yes (inr q)
either? {P} {Q} (no n) (no m) = no neither
  where
    neither : P ⊎ Q → ⊥
    neither (inl p) = n p
    neither (inr q) = m q

pub not? : {P : Type 0} → Dec P → Dec (¬ P)
not? (yes p) = no (λ n. n p)
not? (no n) = yes n

-- the contrary of "for none"
pub all : (n : ℕ) (P : ℕ → Type 0) → ((i : ℕ) → Dec (P i)) → ¬ Some n (λ i. ¬ P i) → (i : ℕ) → i < n → P i
all n P d h i l = pick (d i)
  where
    pick : Dec (P i) → P i
    pick (yes p) = p
    pick (no m) = absurd (h (i, l, m))

module _ (A : Arcs) where
  abbrev Turned : ℕ → ℕ → Type 0
  Turned i j = (A.from j ≡ A.to i) × (A.to j ≡ A.from i) × (A.number j ≡ A.number i)

  abbrev Equal : ℕ → ℕ → Type 0
  Equal i j = (i < j) × (A.from i ≡ A.from j) × (A.to i ≡ A.to j)

  turned? : (i : ℕ) → Dec (Some A.count (Turned i))
  turned? i = some? A.count (Turned i) (λ j. three? (ℕ_discrete _ _) (ℕ_discrete _ _) (ℕ_discrete _ _))

  equal? : (j : ℕ) → Dec (Some A.count (λ i. Equal i j))
  equal? j = some? A.count (λ i. Equal i j) (λ i. three? (dec_lt _ _) (ℕ_discrete _ _) (ℕ_discrete _ _))

  -- a text is paired, or one of the three faults is there
  pub paired_or : Paired A ⊎ Faulty A
  paired_or = pick
      (some? A.count (λ j. Some A.count (λ i. Equal i j)) equal?)
      (some? A.count (λ i. A.from i ≡ A.to i) (λ i. ℕ_discrete _ _))
      (some? A.count (λ i. ¬ Some A.count (Turned i)) (λ i. not? (turned? i)))
    where
      pick : Dec (Some A.count (λ j. Some A.count (λ i. Equal i j)))
          → Dec (Some A.count (λ i. A.from i ≡ A.to i)) → Dec (Some A.count (λ i. ¬ Some A.count (Turned i)))
          → Paired A ⊎ Faulty A
      pick (yes t) d e =
          let u = t.2 in
          inr
          (inl
          (record { one = u.0; other = t.0; before = u.2.0; within = t.1; leaves = u.2.1; leads = u.2.2 }))
      pick (no n) (yes t) e = inr (inr (inl (record { arc = t.0; within = t.1; itself = t.2 })))
      pick (no n) (no m) (yes t) =
          inr
          (inr
          (inr
          (record { arc = t.0; within = t.1; none = λ j o. t.2 (j, o.within, (o.leaves, o.leads, o.equal)) })))
      pick (no n) (no m) (no k) =
          inl
          (record {
            once = λ i j a b p q. order i j a b p q (dec_lt i j) (dec_lt j i);
            apart = λ i a e. m (i, a, e);
            opposite = λ i a.
                let t = all A.count (λ i. Some A.count (Turned i)) turned? k i a in
                (t.0, record { within = t.1; leaves = t.2.0; leads = t.2.1; equal = t.2.2 });
          })
        where
          order : (i j : ℕ) → i < A.count → j < A.count → A.from i ≡ A.from j → A.to i ≡ A.to j → Dec (i < j)
              → Dec (j < i) → i ≡ j
          order i j a b p q (yes h) d = absurd (n (j, b, (i, a, (h, p, q))))
          order i j a b p q (no g) (yes h) = absurd (n (i, a, (j, b, (h, sym p, sym q))))
          order i j a b p q (no g) (no h) = omega arith

  pub faulty_not : Faulty A → ¬ Paired A
  faulty_not (inl t) p =
      omega (
        arith,
        t.before,
        p.once t.one t.other (omega (arith, t.before, t.within)) t.within t.leaves t.leads,
      )
  faulty_not (inr (inl t)) p = p.apart t.arc t.within t.itself
  faulty_not (inr (inr t)) p = let o = p.opposite t.arc t.within in t.none o.0 o.1

  pub not_faulty : ¬ Paired A → Faulty A
  not_faulty n = pick paired_or
    where
      pick : Paired A ⊎ Faulty A → Faulty A
      pick (inl p) = absurd (n p)
      pick (inr f) = f

-- 28 in the same way
names? : (A : Arcs) (a b : ℕ) → Dec (Names A a b)
names? A a b =
    pick
    (some? A.count (λ i. AlongBranch A i a b)
    (λ i. either? (both? (ℕ_discrete _ _) (ℕ_discrete _ _)) (both? (ℕ_discrete _ _) (ℕ_discrete _ _))))
  where
    pick : Dec (Some A.count (λ i. AlongBranch A i a b)) → Dec (Names A a b)
    pick (yes t) = yes (record { arc = t.0; within = t.1; along = t.2 })
    pick (no n) = no (λ h. n (h.arc, h.within, h.along))

names_turn : {A : Arcs} {a b : ℕ} → Names A a b → Names A b a
names_turn {A} {a} {b} n = record { arc = n.arc; within = n.within; along = swap n.along }
  where
    swap : AlongBranch A n.arc a b → AlongBranch A n.arc b a
    swap (inl h) = inr h
    swap (inr h) = inl h

-- each arc's branch of A is named in B
covered : (A B : Arcs) → ¬ Some A.count (λ i. ¬ Names B (A.from i) (A.to i)) → (a b : ℕ) → Names A a b
    → Names B a b
covered A B h a b n =
    pick n.along
    (all A.count (λ i. Names B (A.from i) (A.to i)) (λ i. names? B (A.from i) (A.to i)) h n.arc n.within)
  where
    pick : AlongBranch A n.arc a b → Names B (A.from n.arc) (A.to n.arc) → Names B a b
    pick (inl e) m = rw (e.0, e.1) at m
    pick (inr e) m = names_turn (rw (e.0, e.1) at m)

pub same_or : (A B : Arcs) → SameBranches A B ⊎ Differ A B
same_or A B =
    pick (some? A.count (λ i. ¬ Names B (A.from i) (A.to i)) (λ i. not? (names? B (A.from i) (A.to i))))
    (some? B.count (λ i. ¬ Names A (B.from i) (B.to i)) (λ i. not? (names? A (B.from i) (B.to i))))
  where
    pick : Dec (Some A.count (λ i. ¬ Names B (A.from i) (A.to i)))
        → Dec (Some B.count (λ i. ¬ Names A (B.from i) (B.to i))) → SameBranches A B ⊎ Differ A B
    pick (yes t) d =
        inr
        (record {
          a = A.from t.0;
          b = A.to t.0;
          one_only = inl (record { arc = t.0; within = t.1; along = inl (refl, refl) }, t.2);
        })
    pick (no n) (yes t) =
        inr
        (record {
          a = B.from t.0;
          b = B.to t.0;
          one_only = inr (record { arc = t.0; within = t.1; along = inl (refl, refl) }, t.2);
        })
    pick (no n) (no m) = inl (record { there = covered A B n; back = covered B A m })

pub differ_not : (A B : Arcs) → Differ A B → ¬ SameBranches A B
differ_not A B d s = pick d.one_only
  where
    pick : (Names A d.a d.b × ¬ Names B d.a d.b) ⊎ (Names B d.a d.b × ¬ Names A d.a d.b) → ⊥
    pick (inl h) = h.1 (s.there d.a d.b h.0)
    pick (inr h) = h.1 (s.back d.a d.b h.0)

pub not_differ : (A B : Arcs) → ¬ SameBranches A B → Differ A B
not_differ A B n = pick (same_or A B)
  where
    pick : SameBranches A B ⊎ Differ A B → Differ A B
    pick (inl s) = absurd (n s)
    pick (inr d) = d
