-- Tests of entries: equal, after a pair, at least as good, members of a list, a rising list.
use Prim.Native.Nat.{ℕ, ◌<◌}
use mathlib.Core.Path.{◌≡◌}
use mathlib.Core.Logic.{◌⊎◌, inl, inr}
use mathlib.Core.Bool.{Bool, true, false, not, ◌&&◌, ◌||◌}
use mathlib.Core.List.{List, [], ◌∷◌}
use native.Mathlib.Omega.{arith}
use lib.Dec.{T, eqb, ltb, eqb_refl, eqb→eq, ltb→lt, lt→ltb, le→leb, T_not}
use lib.IntN.{ℤ, pos, negsuc}
use lib.Signed.{lt_z, ◌≤ℤ◌, le_z_yes, lt_z_yes, ≤ℤ_refl, <ℤ_irrefl}
use Rattle.arrays.specs.Members.{In, at, past}
use Rattle.pages.specs.Listing.{Entry, After, first, second, Rising, none, more}
use Rattle.net.proofs.Labels.{both}
use Rattle.heaviest.specs.Heaviest.{AtLeast}
use Rattle.worked.proofs.Tests.{
  and,
  either,
  left_or,
  right_or,
  every,
  every_passed,
  throughout,
  throughout_in,
  eq_z,
  eq_z_is,
}

abbrev entry_tests : Entry → Entry → List Bool
entry_tests x y =
    eqb x.low y.low ∷ eqb x.high y.high ∷ eqb x.length y.length ∷ eq_z x.weight y.weight ∷ []

unfoldable pub same_entry : Entry → Entry → Bool
same_entry x y = every (entry_tests x y)

entry_is : (x y : Entry) → T (same_entry x y) → x ≡ y
unfolding same_entry
entry_is x y t =
    let p = every_passed (entry_tests x y) t in
    let l : x.low ≡ y.low = eqb→eq x.low y.low p.0 in
    let h : x.high ≡ y.high = eqb→eq x.high y.high p.1.0 in
    let g : x.length ≡ y.length = eqb→eq x.length y.length p.1.1.0 in
    let w : x.weight ≡ y.weight = eq_z_is x.weight y.weight p.1.1.1.0 in
    λ i. record { low = l i; high = h i; length = g i; weight = w i }

-- the pair of e comes after (s, t)
unfoldable pub after? : ℕ → ℕ → Entry → Bool
after? s t e = ltb s e.low || (eqb s e.low && ltb t e.high)

pub is_after : (s t : ℕ) (e : Entry) → T (after? s t e) → After s t e
unfolding after?
is_after s t e h = pick (either (ltb s e.low) (eqb s e.low && ltb t e.high) h)
  where
    pick : T (ltb s e.low) ⊎ T (eqb s e.low && ltb t e.high) → After s t e
    pick (inl x) = first (ltb→lt _ _ x)
    pick (inr x) = let y = both (eqb s e.low) (ltb t e.high) x in second (eqb→eq _ _ y.0) (ltb→lt _ _ y.1)

pub after_test : (s t : ℕ) (e : Entry) → After s t e → T (after? s t e)
unfolding after?
after_test s t e (first h) = left_or (ltb s e.low) (eqb s e.low && ltb t e.high) (lt→ltb _ _ h)
after_test s t e (second h k) =
    right_or (ltb s e.low) (eqb s e.low && ltb t e.high)
    (and (eqb s e.low) (ltb t e.high) (rw h (eqb_refl e.low)) (lt→ltb _ _ k))

-- e is at least as good as f
unfoldable pub at_least? : Entry → Entry → Bool
at_least? e f =
    lt_z f.weight e.weight ||
    (eq_z f.weight e.weight &&
    (ltb e.length f.length || (eqb e.length f.length && not (after? f.low f.high e))))

lt_le : (x y : ℤ) → T (lt_z x y) → x ≤ℤ y
lt_le (pos a) (pos b) t = le_z_yes (le→leb a b (omega (arith, ltb→lt a b t)))
lt_le (pos a) (negsuc b) t = absurd t
lt_le (negsuc a) (pos b) t = le_z_yes tt
lt_le (negsuc a) (negsuc b) t = le_z_yes (le→leb b a (omega (arith, ltb→lt b a t)))

pub is_at_least : (e f : Entry) → T (at_least? e f) → AtLeast e f
unfolding at_least?
is_at_least e f t =
    one
    (either (lt_z f.weight e.weight)
    (eq_z f.weight e.weight &&
    (ltb e.length f.length || (eqb e.length f.length && not (after? f.low f.high e))))
    t)
  where
    two : f.weight ≡ e.weight
        → T (ltb e.length f.length) ⊎ T (eqb e.length f.length && not (after? f.low f.high e))
        → AtLeast e f
    two p (inl h) =
        let b : e.length < f.length = ltb→lt e.length f.length h in
        record { weight = rw p (≤ℤ_refl e.weight); length = λ _. omega arith; pair = λ _ z. absurd (omega arith) }
    two p (inr h) =
        let a = both (eqb e.length f.length) (not (after? f.low f.high e)) h in
        let b : e.length ≡ f.length = eqb→eq e.length f.length a.0 in
        record {
          weight = rw p (≤ℤ_refl e.weight);
          length = λ _. omega arith;
          pair = λ _ _ k. T_not (after? f.low f.high e) a.1 (after_test f.low f.high e k);
        }

    one : T (lt_z f.weight e.weight)
        ⊎ T
        (eq_z f.weight e.weight &&
        (ltb e.length f.length || (eqb e.length f.length && not (after? f.low f.high e))))
        → AtLeast e f
    one (inl h) =
        let differ : f.weight ≡ e.weight → ⊥ = λ z. <ℤ_irrefl {a = e.weight} (lt_z_yes (rw z at h)) in
        record {
          weight = lt_le f.weight e.weight h;
          length = λ z. absurd (differ z);
          pair = λ z. absurd (differ z);
        }
    one (inr h) =
        let a = both (eq_z f.weight e.weight)
        (ltb e.length f.length || (eqb e.length f.length && not (after? f.low f.high e))) h in
        two (eq_z_is f.weight e.weight a.0)
        (either (ltb e.length f.length) (eqb e.length f.length && not (after? f.low f.high e)) a.1)

unfoldable pub has_entry : List Entry → Entry → Bool
has_entry [] e = false
has_entry (x ∷ l) e = same_entry e x || has_entry l e

pub has_entry_in : (l : List Entry) (e : Entry) → T (has_entry l e) → In e l
unfolding has_entry
has_entry_in [] e t = absurd t
has_entry_in (x ∷ l) e t = pick (either (same_entry e x) (has_entry l e) t) (has_entry_in l e)
  where
    pick : T (same_entry e x) ⊎ T (has_entry l e) → (T (has_entry l e) → In e l) → In e (x ∷ l)
    pick (inl h) ih = at (entry_is e x h)
    pick (inr h) ih = past (ih h)

unfoldable pub rising? : List Entry → Bool
rising? [] = true
rising? (x ∷ l) = throughout (after? x.low x.high) l && rising? l

pub is_rising : (l : List Entry) → T (rising? l) → Rising l
unfolding rising?
is_rising [] t = none
is_rising (x ∷ l) t =
    let a = both (throughout (after? x.low x.high) l) (rising? l) t in
    more
    (λ y h. is_after x.low x.high y (throughout_in (after? x.low x.high) l a.0 y h))
    (is_rising l a.1)
