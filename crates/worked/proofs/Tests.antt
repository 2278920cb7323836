-- Tests that compute, each with what it shows: all of a list of tests, all numbers below n, members of a list, no
-- member twice, equal lists, equal signed numbers.
use Prim.Native.Nat.{ℕ, zero, suc, ◌<◌}
use mathlib.Core.Path.{◌≡◌, refl, ap}
use mathlib.Core.Logic.{◌⊎◌, inl, inr}
use mathlib.Core.Bool.{Bool, true, false, not, ◌&&◌, ◌||◌, cond}
use mathlib.Core.List.{List, [], ◌∷◌}
use native.Mathlib.Omega.{arith}
use native.Mathlib.Nat.{not-suc-le-zero}
use native.Mathlib.Decide.{ℕ_discrete}
use lib.Dec.{T, eqb, eqb_refl, eqb→eq, T_not}
use lib.IntN.{ℤ, pos, negsuc}
use Rattle.arrays.specs.Members.{In, at, past, Distinct}
use Rattle.net.proofs.Labels.{both}

pub and : (a b : Bool) → T a → T b → T (a && b)
and true true s t = tt
and true false s t = t
and false true s t = s
and false false s t = s

pub either : (a b : Bool) → T (a || b) → T a ⊎ T b
either true b t = inl tt
either false b t = inr t

pub left_or : (a b : Bool) → T a → T (a || b)
left_or true b t = tt
left_or false b t = absurd t

pub right_or : (a b : Bool) → T b → T (a || b)
right_or true b t = tt
right_or false b t = t

-- one of two by a test
pub cond_yes : {A : Type 0} (b : Bool) (x y : A) → T b → cond b x y ≡ x
cond_yes true x y t = refl
cond_yes false x y t = absurd t

pub cond_no : {A : Type 0} (b : Bool) (x y : A) → (T b → ⊥) → cond b x y ≡ y
cond_no true x y n = absurd (n tt)
cond_no false x y n = refl

unfoldable pub every : List Bool → Bool
every [] = true
every (b ∷ l) = b && every l

abbrev pub Passed : List Bool → Type 0
Passed [] = Unit {0}
Passed (b ∷ l) = T b × Passed l

pub every_passed : (l : List Bool) → T (every l) → Passed l
unfolding every
every_passed [] t = tt
every_passed (b ∷ l) t = let x = both b (every l) t in (x.0, every_passed l x.1)

unfoldable pub below : (ℕ → Bool) → ℕ → Bool
below f zero = true
below f (suc n) = below f n && f n

pub below_all : (f : ℕ → Bool) (n : ℕ) → T (below f n) → (i : ℕ) → i < n → T (f i)
unfolding below
below_all f zero t i h = absurd (not-suc-le-zero h)
below_all f (suc n) t i h = pick (ℕ_discrete i n) (below_all f n (both (below f n) (f n) t).0 i)
  where
    pick : Dec (i ≡ n) → (i < n → T (f i)) → T (f i)
    pick (yes e) ih = rw e (both (below f n) (f n) t).1
    pick (no m) ih = ih (omega arith)

pub below_from : (f : ℕ → Bool) (n : ℕ) → ((i : ℕ) → i < n → T (f i)) → T (below f n)
unfolding below
below_from f zero h = tt
below_from f (suc n) h = and (below f n) (f n) (below_from f n (λ i b. h i (omega arith))) (h n (omega arith))

unfoldable pub has : ℕ → List ℕ → Bool
has x [] = false
has x (y ∷ l) = eqb x y || has x l

pub in_has : {x : ℕ} {l : List ℕ} → In x l → T (has x l)
unfolding has
in_has {x} (at {y} {l} e) = left_or (eqb x y) (has x l) (rw e (eqb_refl y))
in_has {x} (past {y} {l} h) = right_or (eqb x y) (has x l) (in_has h)

pub has_in : (x : ℕ) (l : List ℕ) → T (has x l) → In x l
unfolding has
has_in x [] t = absurd t
has_in x (y ∷ l) t = pick (either (eqb x y) (has x l) t) (has_in x l)
  where
    pick : T (eqb x y) ⊎ T (has x l) → (T (has x l) → In x l) → In x (y ∷ l)
    pick (inl e) ih = at (eqb→eq x y e)
    pick (inr h) ih = past (ih h)

-- every member passes a test
unfoldable pub throughout : {A : Type 0} → (A → Bool) → List A → Bool
throughout f [] = true
throughout f (x ∷ l) = f x && throughout f l

pub throughout_in : {A : Type 0} (f : A → Bool) (l : List A) → T (throughout f l) → (x : A) → In x l → T (f x)
unfolding throughout
throughout_in f [] t x h = elim h [ ]
throughout_in f (y ∷ l) t x (at e) = rw e (both (f y) (throughout f l) t).0
throughout_in f (y ∷ l) t x (past h) = throughout_in f l (both (f y) (throughout f l) t).1 x h

unfoldable pub no_repeat : List ℕ → Bool
no_repeat [] = true
no_repeat (x ∷ l) = not (has x l) && no_repeat l

pub no_repeat_distinct : (l : List ℕ) → T (no_repeat l) → Distinct l
unfolding no_repeat
no_repeat_distinct [] t = tt
no_repeat_distinct (x ∷ l) t =
    let b = both (not (has x l)) (no_repeat l) t in
    ((λ h. T_not (has x l) b.0 (in_has h)), no_repeat_distinct l b.1)

unfoldable pub same : List ℕ → List ℕ → Bool
same [] [] = true
same [] (y ∷ m) = false
same (x ∷ l) [] = false
same (x ∷ l) (y ∷ m) = eqb x y && same l m

pub same_is : (l m : List ℕ) → T (same l m) → l ≡ m
unfolding same
same_is [] [] t = refl
same_is [] (y ∷ m) t = absurd t
same_is (x ∷ l) [] t = absurd t
same_is (x ∷ l) (y ∷ m) t = let a = both (eqb x y) (same l m) t in cc (eqb→eq x y a.0, same_is l m a.1)

abbrev pub eq_z : ℤ → ℤ → Bool
eq_z (pos a) (pos b) = eqb a b
eq_z (pos a) (negsuc b) = false
eq_z (negsuc a) (pos b) = false
eq_z (negsuc a) (negsuc b) = eqb a b

pub eq_z_is : (x y : ℤ) → T (eq_z x y) → x ≡ y
eq_z_is (pos a) (pos b) t = ap pos (eqb→eq a b t)
eq_z_is (pos a) (negsuc b) t = absurd t
eq_z_is (negsuc a) (pos b) t = absurd t
eq_z_is (negsuc a) (negsuc b) t = ap negsuc (eqb→eq a b t)
