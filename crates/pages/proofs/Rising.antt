-- Rising lists: their parts, two joined, that the same members make the same list, and that none has a pair twice.
use mathlib.Core.Path.{◌≡◌, refl, sym, ◌∙◌}
use mathlib.Core.Logic.{◌⊎◌, inl, inr}
use mathlib.Core.List.{List, [], ◌∷◌, ◌++◌}
use native.Mathlib.Omega.{arith}
use Rattle.arrays.specs.Members.{In, at, past, Distinct}
use Rattle.pages.specs.Listing.{Entry, first, second, Before, Rising, none, more}
use Rattle.pages.proofs.Order.{after_self, after_both}
use Rattle.arrays.proofs.Members.{not_nil, in_cases, in_left, in_right, in_either}

pub rising_head : {x : Entry} {l : List Entry} → Rising (x ∷ l) → (y : Entry) → In y l → Before x y
rising_head (more f r) = f

pub rising_tail : {x : Entry} {l : List Entry} → Rising (x ∷ l) → Rising l
rising_tail (more f r) = r

pub rising_right : (l : List Entry) {m : List Entry} → Rising (l ++ m) → Rising m
rising_right [] r = r
rising_right (x ∷ l) r = rising_right l (rising_tail r)

pub rising_left : (l m : List Entry) → Rising (l ++ m) → Rising l
rising_left [] m r = none
rising_left (x ∷ l) m r = more (λ y h. rising_head r y (in_left m h)) (rising_left l m (rising_tail r))

pub rising_across : {x y : Entry} (l m : List Entry) → Rising (l ++ m) → In x l → In y m → Before x y
rising_across [] m r h k = elim h [ ]
rising_across (z ∷ l) m r (at e) k = rw e (rising_head r _ (in_right l k))
rising_across (z ∷ l) m r (past h) k = rising_across l m (rising_tail r) h k

pub rising_join : (l : List Entry) {m : List Entry} → Rising l → Rising m
    → ((x y : Entry) → In x l → In y m → Before x y) → Rising (l ++ m)
rising_join [] r q f = q
rising_join (x ∷ l) {m} r q f =
    more (λ y h. ahead y (in_either l h)) (rising_join l (rising_tail r) q (λ y z h k. f y z (past h) k))
  where
    ahead : (y : Entry) → In y l ⊎ In y m → Before x y
    ahead y (inl h) = rising_head r y h
    ahead y (inr h) = f x y (at refl) h

pub same_list : (l m : List Entry) → Rising l → Rising m → ((e : Entry) → In e l → In e m)
    → ((e : Entry) → In e m → In e l) → l ≡ m
same_list [] [] r q f g = refl
same_list [] (y ∷ m) r q f g = absurd (not_nil (g y (at refl)))
same_list (x ∷ l) [] r q f g = absurd (not_nil (f x (at refl)))
same_list (x ∷ l) (y ∷ m) r q f g =
    cc (
      heads,
      same_list l m (rising_tail r) (rising_tail q) (λ e h. drops e h (in_cases (f e (past h))))
          (λ e h. back e h (in_cases (g e (past h)))),
    )
  where
    heads : x ≡ y
    heads = pick (in_cases (f x (at refl))) (in_cases (g y (at refl)))
      where
        pick : (x ≡ y) ⊎ In x m → (y ≡ x) ⊎ In y l → x ≡ y
        pick (inl e) k = e
        pick (inr h) (inl e) = sym e
        pick (inr h) (inr k) = absurd (after_both (rising_head q x h) (rising_head r y k))

    drops : (e : Entry) → In e l → (e ≡ y) ⊎ In e m → In e m
    drops e h (inl p) = absurd (after_self (rw (p ∙ sym heads) at (rising_head r e h)))
    drops e h (inr k) = k

    back : (e : Entry) → In e m → (e ≡ x) ⊎ In e l → In e l
    back e h (inl p) = absurd (after_self (rw (p ∙ heads) at (rising_head q e h)))
    back e h (inr k) = k

-- no entry stands twice in one, and no pair
pub rising_distinct : {l : List Entry} → Rising l → Distinct l
rising_distinct none = tt
rising_distinct (more f r) = (λ h. after_self (f _ h), rising_distinct r)

before_other : (e f : Entry) → Before e f → e.low ≡ f.low → e.high ≡ f.high → ⊥
before_other e f (first a) p q = omega arith
before_other e f (second a b) p q = omega arith

pub rising_pair : {l : List Entry} → Rising l → (e f : Entry) → In e l → In f l → e.low ≡ f.low → e.high ≡ f.high
    → e ≡ f
rising_pair none e f h k p q = elim h [ ]
rising_pair (more b r) e f (at u) (at v) p q = u ∙ sym v
rising_pair (more b r) e f (at u) (past k) p q = absurd (before_other e f (rw (← u) at (b f k)) p q)
rising_pair (more b r) e f (past h) (at v) p q = absurd (before_other f e (rw (← v) at (b e h)) (sym p) (sym q))
rising_pair (more b r) e f (past h) (past k) p q = rising_pair r e f h k p q
