-- The branches' first arcs: there is one list of them, and where 27 does not hold they are half the arcs. Of the arcs
-- before j some have no opposite before j (the free ones); arcs and free arcs together are twice the first arcs, for a
-- first arc is free at first, and a second arc takes its opposite out; and of all arcs none is free.
use Prim.Native.Nat.{ℕ, zero, suc, ◌+◌, ◌*◌, ◌≤◌, ◌<◌}
use mathlib.Core.Path.{◌≡◌, refl, sym, ap, ◌∙◌}
use mathlib.Core.Logic.{◌⊎◌, inl, inr, ◌≢◌}
use mathlib.Core.List.{List, [], ◌∷◌, ◌++◌}
use native.Mathlib.Omega.{arith}
use native.Mathlib.Decide.{ℕ_discrete}
use lib.ListN.{length, length-append}
use Rattle.arcs.specs.Arcs.{Arcs, Paired, AlongBranch}
use Rattle.arcs.specs.Made.{Earlier, Firsts, none, again, new}
use Rattle.net.specs.Count.{Count}
use Rattle.net.proofs.Counts.{count_none, count_one, count_add, count_unique, count_dec}
use Rattle.arcs.proofs.Search.{Some, some?, both?, either?}

module _ (A : Arcs) where
  -- arc i is arc x turned round
  pub record Back (i x : ℕ) : Type 0 where
    pub leaves : A.from i ≡ A.to x
    pub leads : A.to i ≡ A.from x

  back? : (i x : ℕ) → Dec (Back i x)
  back? i x = pick (ℕ_discrete (A.from i) (A.to x)) (ℕ_discrete (A.to i) (A.from x))
    where
      pick : Dec (A.from i ≡ A.to x) → Dec (A.to i ≡ A.from x) → Dec (Back i x)
      pick (yes a) (yes b) = yes (record { leaves = a; leads = b })
      pick (yes a) (no n) = no (λ h. n h.leads)
      pick (no n) d = no (λ h. n h.leaves)

  pub turn : {i x : ℕ} → Back i x → Back x i
  turn b = record { leaves = sym b.leads; leads = sym b.leaves }

  -- an earlier arc of the same branch is the opposite one
  pub earlier_back : Paired A → {j : ℕ} → j < A.count → (e : Earlier A j) → Back e.arc j
  earlier_back p {j} l e = pick e.along
    where
      pick : AlongBranch A e.arc (A.from j) (A.to j) → Back e.arc j
      pick (inl h) = absurd (omega (arith, e.before, p.once e.arc j (omega (arith, e.before)) l h.0 h.1))
      pick (inr h) = record { leaves = h.0; leads = h.1 }

  pub back_earlier : {i j : ℕ} → i < j → Back i j → Earlier A j
  back_earlier {i} {j} l b = record { arc = i; before = l; along = inr (b.leaves, b.leads) }

  pub back_only : Paired A → {i h x : ℕ} → i < A.count → h < A.count → Back i x → Back h x → i ≡ h
  back_only p {i} {h} a b c d = p.once i h a b (c.leaves ∙ sym d.leaves) (c.leads ∙ sym d.leads)

  -- and it is its branch's first
  pub earlier_first : Paired A → {j : ℕ} → j < A.count → (e : Earlier A j) → ¬ Earlier A e.arc
  earlier_first p {j} l e f =
      let b : e.arc < A.count = omega (arith, e.before) in
      let q = back_only p (omega (arith, f.before)) l (earlier_back p b f) (turn (earlier_back p l e)) in
      omega (arith, q, f.before, e.before)

  same? : (i j : ℕ) → Dec (AlongBranch A i (A.from j) (A.to j))
  same? i j = either? (both? (ℕ_discrete _ _) (ℕ_discrete _ _)) (both? (ℕ_discrete _ _) (ℕ_discrete _ _))

  pub earlier? : (j : ℕ) → Dec (Earlier A j)
  earlier? j = pick (some? j (λ i. AlongBranch A i (A.from j) (A.to j)) (λ i. same? i j))
    where
      pick : Dec (Some j (λ i. AlongBranch A i (A.from j) (A.to j))) → Dec (Earlier A j)
      pick (yes t) = yes (record { arc = t.0; before = t.1; along = t.2 })
      pick (no n) = no (λ e. n (e.arc, e.before, e.along))

  -- one list
  pub firsts_only : {j : ℕ} {l m : List ℕ} → Firsts A j l → Firsts A j m → l ≡ m
  firsts_only none none = refl
  firsts_only (again f e) (again g h) = firsts_only f g
  firsts_only (again f e) (new g n) = absurd (n e)
  firsts_only (new f n) (again g e) = absurd (n e)
  firsts_only (new {j} f n) (new g m) = ap (λ l. l ++ (j ∷ [])) (firsts_only f g)

  pub firsts_exist : (j : ℕ) → (l : List ℕ) × Firsts A j l
  firsts_exist zero = ([], none)
  firsts_exist (suc j) = pick (earlier? j) (firsts_exist j)
    where
      pick : Dec (Earlier A j) → (l : List ℕ) × Firsts A j l → (l : List ℕ) × Firsts A (suc j) l
      pick (yes e) t = (t.0, again t.1 e)
      pick (no n) t = (t.0 ++ (j ∷ []), new t.1 n)

  pub firsts_le : {j k : ℕ} {l m : List ℕ} → Firsts A k m → Firsts A j l → j ≤ k → length l ≤ length m
  firsts_le {j} {k} {l} none f h =
      let e : j ≡ zero = omega arith in
      omega (arith, ap length (firsts_only (rw (e) at f) none))
  firsts_le {j} {k} {l} (again {j = i} {l = m} g e) f h = pick (ℕ_discrete j (suc i)) (λ q. firsts_le g f q)
    where
      pick : Dec (j ≡ suc i) → (j ≤ i → length l ≤ length m) → length l ≤ length m
      pick (yes q) ih = omega (arith, ap length (firsts_only (rw (q) at f) (again g e)))
      pick (no n) ih = ih (omega arith)
  firsts_le {j} {k} {l} (new {j = i} {l = m} g e) f h = pick (ℕ_discrete j (suc i)) (λ q. firsts_le g f q)
    where
      pick : Dec (j ≡ suc i) → (j ≤ i → length l ≤ length m) → length l ≤ length (m ++ (i ∷ []))
      pick (yes q) ih = omega (arith, ap length (firsts_only (rw (q) at f) (new g e)))
      pick (no n) ih = omega (arith, ih (omega arith), length-append m (i ∷ []))

  -- an arc before j whose opposite does not stand before j
  abbrev pub Free : ℕ → ℕ → Type 0
  Free j x = (x < j) × ((i : ℕ) → i < j → ¬ Back i x)

  free? : (j x : ℕ) → Dec ((i : ℕ) → i < j → ¬ Back i x)
  free? j x = pick (some? j (λ i. Back i x) (λ i. back? i x))
    where
      pick : Dec (Some j (λ i. Back i x)) → Dec ((i : ℕ) → i < j → ¬ Back i x)
      pick (yes t) = no (λ n. n t.0 t.1 t.2)
      pick (no n) = yes (λ i l b. n (i, l, b))

  module _ (p : Paired A) where
    -- arcs and free arcs together are twice the first arcs
    abbrev Twofold : ℕ → List ℕ → Type 0
    Twofold j l = (o : ℕ) × Count (Free j) o × (j + o ≡ 2 * length l)

    twofold_again : (j : ℕ) (l : List ℕ) → j < A.count → Earlier A j → Twofold j l → Twofold (suc j) l
    twofold_again j l b e t =
        let d = count_dec {P = λ x. (i : ℕ) → i < suc j → ¬ Back i x} (suc j) (free? (suc j)) in (
          d.0,
          d.1,
          omega (
            arith,
            t.2,
            count_unique t.1
                (count_add {P = λ x. x ≡ e.arc} (count_one e.arc refl (λ y q. q)) d.1 apart split one other),
          ),
        )
      where
        k : Back e.arc j
        k = earlier_back p b e

        low : e.arc < A.count
        low = omega (arith, e.before)

        apart : (x : ℕ) → x ≡ e.arc → Free (suc j) x → ⊥
        apart x q f = f.1 j (omega arith) (rw (q) (turn k))

        split : (x : ℕ) → Free j x → (x ≡ e.arc) ⊎ Free (suc j) x
        split x f = pick (ℕ_discrete x e.arc)
          where
            last : x ≢ e.arc → (i : ℕ) → i < suc j → Dec (i ≡ j) → ¬ Back i x
            last n i h (yes q) = λ c. n (back_only p (omega (arith, f.0)) low (turn (rw (q) at c)) k)
            last n i h (no m) = f.1 i (omega arith)

            pick : Dec (x ≡ e.arc) → (x ≡ e.arc) ⊎ Free (suc j) x
            pick (yes q) = inl q
            pick (no n) = inr (omega (arith, f.0), λ i h. last n i h (ℕ_discrete i j))

        one : (x : ℕ) → x ≡ e.arc → Free j x
        one x q = rw (q) (e.before, λ i h c. omega (arith, back_only p (omega arith) b c (turn k)))

        other : (x : ℕ) → Free (suc j) x → Free j x
        other x f = (pick (ℕ_discrete x j), λ i h. f.1 i (omega arith))
          where
            pick : Dec (x ≡ j) → x < j
            pick (yes q) = absurd (f.1 e.arc (omega (arith, e.before)) (rw (q) k))
            pick (no n) = omega (arith, f.0)

    twofold_new : (j : ℕ) (l : List ℕ) → j < A.count → ¬ Earlier A j → Twofold j l → Twofold (suc j) (l ++ (j ∷ []))
    twofold_new j l b n t = (
      1 + t.0,
      count_add {P = λ x. x ≡ j} {R = Free (suc j)} (count_one j refl (λ y q. q)) t.1 (λ x q f. omega (arith, f.0))
          (λ x f. split x f (ℕ_discrete x j)) one other,
      omega (arith, t.2, length-append l (j ∷ [])),
    )
      where
        split : (x : ℕ) → Free (suc j) x → Dec (x ≡ j) → (x ≡ j) ⊎ Free j x
        split x f (yes q) = inl q
        split x f (no m) = inr (omega (arith, f.0), λ i h. f.1 i (omega arith))

        none_here : (i : ℕ) → i < suc j → Dec (i ≡ j) → ¬ Back i j
        none_here i h (yes q) = λ c. p.apart j b (rw (q) at c.leaves)
        none_here i h (no m) = λ c. n (back_earlier (omega arith) c)

        one : (x : ℕ) → x ≡ j → Free (suc j) x
        one x q = rw (q) (omega arith, λ i h. none_here i h (ℕ_discrete i j))

        other : (x : ℕ) → Free j x → Free (suc j) x
        other x f = (omega (arith, f.0), λ i h. pick i h (ℕ_discrete i j))
          where
            pick : (i : ℕ) → i < suc j → Dec (i ≡ j) → ¬ Back i x
            pick i h (yes q) = λ c. n (back_earlier f.0 (turn (rw (q) at c)))
            pick i h (no m) = f.1 i (omega arith)

    twofold : {j : ℕ} {l : List ℕ} → Firsts A j l → j ≤ A.count → Twofold j l
    twofold none h = (0, count_none (λ x f. omega (arith, f.0)), refl)
    twofold (again {j} {l} f e) h = twofold_again j l (omega arith) e (twofold f (omega arith))
    twofold (new {j} {l} f n) h = twofold_new j l (omega arith) n (twofold f (omega arith))

    pub half : {l : List ℕ} → Firsts A A.count l → A.count ≡ 2 * length l
    half f =
        let t = twofold f (omega arith) in
        omega (
          arith,
          t.2,
          count_unique t.1
              (count_none {P = Free A.count}
              (λ x h.
              let o = p.opposite x h.0 in
              h.1 o.0 o.1.within (record { leaves = o.1.leaves; leads = o.1.leads }))),
        )

    -- so a branch that comes anew finds room
    pub room : {j : ℕ} {l : List ℕ} → j < A.count → Firsts A j l → ¬ Earlier A j → 2 * length l + 2 ≤ A.count
    room {j} {l} b f n = let t = firsts_exist A.count in
        omega (arith, half t.1, firsts_le t.1 (new f n) (omega arith), length-append l (j ∷ []))
