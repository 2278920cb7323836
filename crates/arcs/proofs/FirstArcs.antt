-- The list of first arcs: rising, each of them first, and one for each branch.
use Prim.Native.Nat.{ℕ, suc, ◌<◌}
use mathlib.Core.Path.{◌≡◌, refl, sym, ◌∙◌}
use mathlib.Core.Logic.{inl, inr}
use mathlib.Core.List.{List, [], ◌∷◌, ◌++◌}
use native.Mathlib.Omega.{arith}
use native.Mathlib.Decide.{ℕ_discrete, dec_lt}
use lib.ListN.{length, length-append, get_or-append}
use lib.Seq.{get_or_at}
use Rattle.arrays.specs.At.{at}
use Rattle.arcs.specs.Arcs.{Arcs, AlongBranch}
use Rattle.arcs.specs.Made.{Earlier, Firsts, none, again, new}

module _ (A : Arcs) where
  -- an element of l ++ [j] is j, or one of l
  last : (C : ℕ → Type 0) (l : List ℕ) (j r : ℕ) → r < length (l ++ (j ∷ [])) → (r ≡ length l → C j)
      → (r < length l → C (at l r)) → C (at (l ++ (j ∷ [])) r)
  last C l j r h f g = pick (ℕ_discrete r (length l))
    where
      pick : Dec (r ≡ length l) → C (at (l ++ (j ∷ [])) r)
      pick (yes e) = rw (get_or_at l j [] 0 r (sym e)) (f e)
      pick (no n) =
          let b : r < length l = omega (arith, length-append l (j ∷ [])) in
          rw (get_or-append l (j ∷ []) 0 r b) (g b)

  pub firsts_below : {j : ℕ} {l : List ℕ} → Firsts A j l → (r : ℕ) → r < length l → at l r < j
  firsts_below none r h = absurd (omega arith)
  firsts_below (again f e) r h = omega (arith, firsts_below f r h)
  firsts_below (new {j} {l} f n) r h =
      last (λ x. x < suc j) l j r h (λ e. omega arith) (λ b. omega (arith, firsts_below f r b))

  pub firsts_first : {j : ℕ} {l : List ℕ} → Firsts A j l → (r : ℕ) → r < length l → ¬ Earlier A (at l r)
  firsts_first none r h = absurd (omega arith)
  firsts_first (again f e) r h = firsts_first f r h
  firsts_first (new {j} {l} f n) r h = last (λ x. ¬ Earlier A x) l j r h (λ e. n) (λ b. firsts_first f r b)

  pub firsts_rise : {j : ℕ} {l : List ℕ} → Firsts A j l → (r s : ℕ) → r < s → s < length l → at l r < at l s
  firsts_rise none r s h k = absurd (omega arith)
  firsts_rise (again f e) r s h k = firsts_rise f r s h k
  firsts_rise (new {j} {l} f n) r s h k =
      let b : r < length l = omega (arith, length-append l (j ∷ [])) in
      last (λ x. at (l ++ (j ∷ [])) r < x) l j s k
      (λ e. rw (get_or-append l (j ∷ []) 0 r b) (firsts_below f r b))
      (λ d. rw (get_or-append l (j ∷ []) 0 r b) (firsts_rise f r s h d))

  -- arc i is of arc h's branch
  abbrev pub Of : ℕ → ℕ → Type 0
  Of h i = AlongBranch A i (A.from h) (A.to h)

  of_trans : {h i k : ℕ} → Of h i → Of i k → Of h k
  of_trans (inl a) (inl b) = inl (b.0 ∙ a.0, b.1 ∙ a.1)
  of_trans (inl a) (inr b) = inr (b.0 ∙ a.1, b.1 ∙ a.0)
  of_trans (inr a) (inl b) = inr (b.0 ∙ a.0, b.1 ∙ a.1)
  of_trans (inr a) (inr b) = inl (b.0 ∙ a.1, b.1 ∙ a.0)

  pub of_turn : {h i : ℕ} → Of h i → Of i h
  of_turn (inl a) = inl (sym a.0, sym a.1)
  of_turn (inr a) = inr (sym a.1, sym a.0)

  abbrev Rowed : List ℕ → ℕ → Type 0
  Rowed l h = (r : ℕ) × (r < length l) × Of h (at l r)

  -- each arc's branch has a row
  pub firsts_each : {j : ℕ} {l : List ℕ} → Firsts A j l → (h : ℕ) → h < j → Rowed l h
  firsts_each none h b = absurd (omega arith)
  firsts_each (again {j} {l} f e) h b = pick (ℕ_discrete h j) (λ i c. firsts_each f i c)
    where
      pick : Dec (h ≡ j) → ((i : ℕ) → i < j → Rowed l i) → Rowed l h
      pick (yes q) ih = let t = ih e.arc e.before in (t.0, t.1, rw (q) (of_trans e.along t.2))
      pick (no n) ih = ih h (omega arith)
  firsts_each (new {j} {l} f n) h b = pick (ℕ_discrete h j) (λ i c. firsts_each f i c)
    where
      pick : Dec (h ≡ j) → ((i : ℕ) → i < j → Rowed l i) → Rowed (l ++ (j ∷ [])) h
      pick (yes q) ih = (
        length l,
        omega (arith, length-append l (j ∷ [])),
        rw (q, get_or_at l j [] 0 (length l) refl) (inl (refl, refl)),
      )
      pick (no m) ih =
          let t = ih h (omega arith) in
          (t.0, omega (arith, t.1, length-append l (j ∷ [])), rw (get_or-append l (j ∷ []) 0 t.0 t.1) t.2)

  -- and no two
  pub firsts_one : {j : ℕ} {l : List ℕ} → Firsts A j l → (r s : ℕ) → r < length l → s < length l → Of (at l r) (at l s)
      → r ≡ s
  firsts_one {j} {l} f r s h k o = pick (dec_lt r s) (dec_lt s r)
    where
      pick : Dec (r < s) → Dec (s < r) → r ≡ s
      pick (yes b) d =
          absurd (firsts_first f s k (record { arc = at l r; before = firsts_rise f r s b k; along = of_turn o }))
      pick (no n) (yes b) =
          absurd (firsts_first f r h (record { arc = at l s; before = firsts_rise f s r b h; along = o }))
      pick (no n) (no m) = omega arith
