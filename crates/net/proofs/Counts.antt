-- Counting: the numbers below n, a list without one member, and the laws of Count (one count at the most, the same for
-- the same property, the sum over two parts, one more, those below n + 1).
use Prim.Native.Nat.{ℕ, zero, suc, ◌+◌, ◌≤◌, ◌<◌}
use mathlib.Core.Path.{◌≡◌, refl, sym, ap, ◌∙◌}
use mathlib.Core.Logic.{◌⊎◌, ◌≢◌, ⊎_elim}
use mathlib.Core.List.{List, [], ◌∷◌, ◌++◌}
use native.Mathlib.Omega.{arith}
use native.Mathlib.Nat.{not-suc-le-zero}
use native.Mathlib.Decide.{ℕ_discrete}
use lib.ListN.{length, length-append}
use Rattle.arrays.specs.Members.{In, at, past, Distinct}
use Rattle.net.specs.Count.{Count}
use Rattle.arrays.proofs.Members.{in?, not_nil, in_one, in_left, in_right, in_either, distinct_join}

-- the numbers below n
unfoldable pub upto : ℕ → List ℕ
upto zero = []
upto (suc n) = n ∷ upto n

pub upto_length : (n : ℕ) → length (upto n) ≡ n
unfolding upto
upto_length zero = refl
upto_length (suc n) = ap suc (upto_length n)

pub upto_in : (n x : ℕ) → x < n → In x (upto n)
unfolding upto
upto_in zero x h = absurd (not-suc-le-zero h)
upto_in (suc n) x h = pick (ℕ_discrete x n) (upto_in n x)
  where
    pick : Dec (x ≡ n) → (x < n → In x (upto n)) → In x (n ∷ upto n)
    pick (yes e) ih = at e
    pick (no m) ih = past (ih (omega arith))

-- a list without one of its members
abbrev pub Without : ℕ → List ℕ → Type 0
Without y l = (m : List ℕ) × (length l ≡ suc (length m)) × ((z : ℕ) → In z l → z ≢ y → In z m)

pub without : (y : ℕ) (l : List ℕ) → In y l → Without y l
without y [] h = elim h [ ]
without y (x ∷ l) (at e) = (l, refl, keep)
  where
    keep : (z : ℕ) → In z (x ∷ l) → z ≢ y → In z l
    keep z (at q) n = absurd (n (q ∙ sym e))
    keep z (past m) n = m
without y (x ∷ l) (past h) = more (without y l h)
  where
    keep : (t : Without y l) (z : ℕ) → In z (x ∷ l) → z ≢ y → In z (x ∷ t.0)
    keep t z (at q) n = at q
    keep t z (past m) n = past (t.2 z m n)

    more : Without y l → Without y (x ∷ l)
    more t = (x ∷ t.0, ap suc t.1, keep t)

-- a list without a member twice is no longer than one that has all of them
pub distinct_le : (l m : List ℕ) → Distinct l → ((x : ℕ) → In x l → In x m) → length l ≤ length m
distinct_le [] m d f = omega arith
distinct_le (x ∷ l) m d f = drop (without x m (f x (at refl))) (distinct_le l)
  where
    drop : Without x m → ((m : List ℕ) → Distinct l → ((x : ℕ) → In x l → In x m) → length l ≤ length m)
        → length (x ∷ l) ≤ length m
    drop w ih = omega (arith, w.1, ih w.0 d.1 (λ z i. w.2 z (f z (past i)) (λ q. d.0 (rw q at i))))

pub count_le : {P Q : ℕ → Type 0} {a b : ℕ} → ((x : ℕ) → P x → Q x) → Count P a → Count Q b → a ≤ b
count_le f p q =
    omega (arith, p.long, q.long, distinct_le p.list q.list p.once (λ x i. q.all x (f x (p.only x i))))

-- well defined
pub count_unique : {P : ℕ → Type 0} {a b : ℕ} → Count P a → Count P b → a ≡ b
count_unique {P} p q = omega (arith, count_le (λ x h. h) p q, count_le (λ x h. h) q p)

pub count_same : {P Q : ℕ → Type 0} {a : ℕ} → ((x : ℕ) → P x → Q x) → ((x : ℕ) → Q x → P x) → Count P a → Count Q a
count_same f g p =
    record {
      list = p.list;
      once = p.once;
      only = λ x i. f x (p.only x i);
      all = λ x h. p.all x (g x h);
      long = p.long;
    }

pub count_none : {P : ℕ → Type 0} → ((x : ℕ) → ¬ P x) → Count P 0
count_none n =
    record { list = []; once = tt; only = λ x i. absurd (not_nil i); all = λ x h. absurd (n x h); long = refl }

pub count_one : {P : ℕ → Type 0} (x : ℕ) → P x → ((y : ℕ) → P y → y ≡ x) → Count P 1
count_one {P} x h n = record {
  list = x ∷ [];
  once = (not_nil, tt);
  only = λ y i. rw (in_one i) h;
  all = λ y i. at (n y i);
  long = refl;
}

-- where there is one, any two are equal
pub count_lone : {P : ℕ → Type 0} {x y : ℕ} → Count P 1 → P x → P y → x ≡ y
count_lone {x} {y} c p q = lone c.list c.long (c.all x p) (c.all y q)
  where
    lone : (l : List ℕ) → length l ≡ 1 → In x l → In y l → x ≡ y
    lone [] e i j = absurd (not_nil i)
    lone (z ∷ []) e i j = in_one i ∙ sym (in_one j)
    lone (z ∷ (w ∷ l)) e i j = absurd (omega arith)

pub count_add : {P Q R : ℕ → Type 0} {a b : ℕ} → Count P a → Count Q b → ((x : ℕ) → P x → Q x → ⊥)
    → ((x : ℕ) → R x → P x ⊎ Q x) → ((x : ℕ) → P x → R x) → ((x : ℕ) → Q x → R x) → Count R (a + b)
count_add p q n f g h = record {
  list = p.list ++ q.list;
  once = distinct_join p.list q.list p.once q.once (λ x i j. n x (p.only x i) (q.only x j));
  only = λ x i. ⊎_elim (λ j. g x (p.only x j)) (λ j. h x (q.only x j)) (in_either p.list i);
  all = λ x r. ⊎_elim (λ j. in_left q.list (p.all x j)) (λ j. in_right p.list (q.all x j)) (f x r);
  long = omega (arith, length-append p.list q.list, p.long, q.long);
}

pub count_below : {P : ℕ → Type 0} {a : ℕ} (n : ℕ) → ((x : ℕ) → P x → x < n) → Count P a → a ≤ n
count_below n f p =
    omega (
      arith,
      p.long,
      upto_length n,
      distinct_le p.list (upto n) p.once (λ x i. upto_in n x (f x (p.only x i))),
    )

pub count_some : {P : ℕ → Type 0} {a : ℕ} (x : ℕ) → P x → Count P a → 0 < a
count_some x h p = some p.list (p.all x h) p.long
  where
    some : {a : ℕ} (l : List ℕ) → In x l → length l ≡ a → 0 < a
    some [] i e = absurd (not_nil i)
    some (y ∷ l) i e = omega arith

-- one more: z, which has not been counted
pub count_more : {P Q : ℕ → Type 0} {k : ℕ} (z : ℕ) → Q z → ¬ P z → ((x : ℕ) → Q x → x ≢ z → P x)
    → ((x : ℕ) → P x → Q x) → Count P k → Count Q (suc k)
count_more {P} {Q} z q n f g c = record {
  list = z ∷ c.list;
  once = (λ i. n (c.only z i), c.once);
  only = only;
  all = λ x h. pick x h (ℕ_discrete x z);
  long = ap suc c.long;
}
  where
    only : (x : ℕ) → In x (z ∷ c.list) → Q x
    only x (at e) = rw e q
    only x (past i) = g x (c.only x i)

    pick : (x : ℕ) → Q x → Dec (x ≡ z) → In x (z ∷ c.list)
    pick x h (yes e) = at e
    pick x h (no m) = past (c.all x (f x h m))

-- those below n that have a property, and n itself: it has it, or not
module _ (P : ℕ → Type 0) (n : ℕ) where
  lower : (x : ℕ) → (x < n) × P x → (x < suc n) × P x
  lower x h = (omega (arith, h.0), h.1)

  pub count_next : {k : ℕ} → P n → Count (λ x. (x < n) × P x) k → Count (λ x. (x < suc n) × P x) (suc k)
  count_next p =
      count_more n (omega arith, p) (λ h. omega (arith, h.0)) (λ x h m. (omega (arith, h.0), h.1)) lower

  pub count_over : {k : ℕ} → ¬ P n → Count (λ x. (x < n) × P x) k → Count (λ x. (x < suc n) × P x) k
  count_over m = count_same lower (λ x h. (off x h (ℕ_discrete x n), h.1))
    where
      off : (x : ℕ) → (x < suc n) × P x → Dec (x ≡ n) → x < n
      off x h (yes e) = absurd (m (rw e at h.1))
      off x h (no q) = omega (arith, h.0)

-- where the property is decided
unfoldable pub count_dec : {P : ℕ → Type 0} (n : ℕ) → ((x : ℕ) → Dec (P x)) → (k : ℕ) × Count (λ x. (x < n) × P x) k
count_dec zero d = (0, count_none (λ x h. omega (arith, h.0)))
count_dec {P} (suc n) d = pick (d n) (count_dec n d)
  where
    pick : Dec (P n) → (k : ℕ) × Count (λ x. (x < n) × P x) k → (k : ℕ) × Count (λ x. (x < suc n) × P x) k
    pick (no m) t = (t.0, count_over P n m t.1)
    pick (yes p) t = (suc t.0, count_next P n p t.1)

-- all numbers below n
pub count_all : (n : ℕ) → Count (λ x. x < n) n
count_all zero = count_none (λ x h. omega arith)
count_all (suc n) =
    count_more n (omega arith) (λ h. omega arith) (λ x h m. omega arith) (λ x h. omega arith) (count_all n)

-- as many as there are numbers below n: then all of them
pub count_full : {P : ℕ → Type 0} {k : ℕ} (n : ℕ) → ((x : ℕ) → P x → x < n) → Count P k → n ≤ k → (x : ℕ) → x < n → P x
count_full {P} {k} n f p l x b = pick (in? x p.list)
  where
    below : (y : ℕ) → In y (x ∷ p.list) → In y (upto n)
    below y (at e) = upto_in n y (rw e b)
    below y (past i) = upto_in n y (f y (p.only y i))

    pick : Dec (In x p.list) → P x
    pick (yes i) = p.only x i
    pick (no m) = absurd (omega (arith, upto_length n, p.long, distinct_le (x ∷ p.list) (upto n) (m, p.once) below))
