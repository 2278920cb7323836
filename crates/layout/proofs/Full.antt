-- Counting images: as many different numbers of an interval as it is long are all of it.
use Prim.Native.Nat.{ℕ, zero, suc, ◌+◌, ◌≤◌, ◌<◌}
use mathlib.Core.Path.{◌≡◌, refl, sym, ap, ◌∙◌}
use mathlib.Core.Logic.{◌⊎◌, inl, inr}
use mathlib.Core.List.{List, [], ◌∷◌}
use native.Mathlib.Omega.{arith}
use native.Mathlib.Numerals.{add-one}
use native.Mathlib.Decide.{ℕ_discrete}
use lib.ListN.{length}
use Rattle.arrays.specs.Members.{In, at, past, Distinct}
use Rattle.net.specs.Count.{Count}
use Rattle.arrays.proofs.Members.{not_nil, in?}
use Rattle.net.proofs.Counts.{distinct_le, count_none, count_one, count_add}

module _ (f : ℕ → ℕ) where
  images : List ℕ → List ℕ
  images [] = []
  images (x ∷ l) = f x ∷ images l

  images_long : (l : List ℕ) → length (images l) ≡ length l
  unfolding images
  images_long [] = refl
  images_long (x ∷ l) = ap suc (images_long l)

  in_images : {x : ℕ} (l : List ℕ) → In x l → In (f x) (images l)
  unfolding images
  in_images [] h = absurd (not_nil h)
  in_images (y ∷ l) (at e) = at (ap f e)
  in_images (y ∷ l) (past h) = past (in_images l h)

  images_in : {q : ℕ} (l : List ℕ) → In q (images l) → (x : ℕ) × In x l × (f x ≡ q)
  unfolding images
  images_in [] h = absurd (not_nil h)
  images_in (y ∷ l) (at e) = (y, at refl, sym e)
  images_in (y ∷ l) (past h) = let t = images_in l h in (t.0, past t.1, t.2)

  images_once : (l : List ℕ) → Distinct l → ((x y : ℕ) → In x l → In y l → f x ≡ f y → x ≡ y) → Distinct (images l)
  unfolding images
  images_once [] d o = tt
  images_once (x ∷ l) d o = (λ h. new (images_in l h), images_once l d.1 (λ y z a b. o y z (past a) (past b)))
    where
      new : (y : ℕ) × In y l × (f y ≡ f x) → ⊥
      new t = d.0 (rw (o t.0 x (past t.1) (at refl) t.2) at t.1)

  pub count_image : {P : ℕ → Type 0} {k : ℕ} → ((x y : ℕ) → P x → P y → f x ≡ f y → x ≡ y) → Count P k
      → Count (λ q. (x : ℕ) × P x × (f x ≡ q)) k
  count_image {P} o c = record {
    list = images c.list;
    once = images_once c.list c.once (λ x y a b e. o x y (c.only x a) (c.only y b) e);
    only = λ q i. let t = images_in c.list i in (t.0, c.only t.0 t.1, t.2);
    all = λ q t. rw t.2 at (in_images c.list (c.all t.0 t.1));
    long = images_long c.list ∙ c.long;
  }

-- of two properties of one count, the one that implies the other is implied by it
pub count_full : {P Q : ℕ → Type 0} {k : ℕ} → ((x : ℕ) → P x → Q x) → Count P k → Count Q k → (x : ℕ) → Q x → P x
count_full {P} f p q x h = pick (in? x p.list)
  where
    pick : Dec (In x p.list) → P x
    pick (yes i) = p.only x i
    pick (no m) = absurd (omega (arith, p.long, q.long, distinct_le (x ∷ p.list) q.list (m, p.once) within))
      where
        within : (y : ℕ) → In y (x ∷ p.list) → In y q.list
        within y (at e) = rw e (q.all x h)
        within y (past i) = q.all y (f y (p.only y i))

pub count_between : (s k : ℕ) → Count (λ q. (s ≤ q) × (q < s + k)) k
count_between s zero = count_none (λ x h. omega (arith, h.0, h.1))
count_between s (suc k) =
    rw (add-one k)
    at (count_add {Q = λ q. q ≡ s + k} {R = λ q. (s ≤ q) × (q < s + suc k)} (count_between s k)
    (count_one (s + k) refl (λ y e. e)) (λ x h e. omega (arith, h.1)) (λ x h. pick x h (ℕ_discrete x (s + k)))
    (λ x h. (h.0, omega (arith, h.1))) (λ x e. (omega arith, omega arith)))
  where
    pick : (x : ℕ) → (s ≤ x) × (x < s + suc k) → Dec (x ≡ s + k) → ((s ≤ x) × (x < s + k)) ⊎ (x ≡ s + k)
    pick x h (yes e) = inr e
    pick x h (no m) = inl (h.0, omega (arith, h.1))
