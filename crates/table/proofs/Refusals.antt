-- Laws of the forms of refusal: two promises that refuse alike give related outcomes where what follows does, so each
-- allows one outcome where its rest does; an outcome that is not the refusal has passed; a refusal stays one when the
-- outcome's type changes, by a function that takes refusals to refusals, and when the good condition or a row's number
-- is said in other words; and what holds of the refusal and of what follows holds of the outcome.
use mathlib.Core.Path.{◌≡◌, refl}
use Prim.Native.Nat.{ℕ, ◌<◌}
use native.Mathlib.Decide.{dec_lt}
use native.Mathlib.Omega.{arith}
use Rattle.table.specs.Refuse.{Unless, refused, passed, FirstBad, bad, fine, Only}

-- two outcomes are related, where a refusal is to itself and what follows is
module _ {A : Type 0} (R : A → A → Type 0) {rest rest' : A → Type 0} where
  pub unless_both : {no : A} {Ok : Type 0} → R no no → (Ok → (x y : A) → rest x → rest' y → R x y) → (x y : A)
      → Unless A no Ok rest x → Unless A no Ok rest' y → R x y
  unless_both a o x y (refused c) (refused d) = a
  unless_both a o x y (refused c) (passed n q) = absurd (c n)
  unless_both a o x y (passed n p) (refused c) = absurd (c n)
  unless_both a o x y (passed n p) (passed m q) = o n x y p q

  pub first_bad_both : {refusal : ℕ → ℕ → A} {m : ℕ} {Number : ℕ → ℕ → Type 0}
      → ((k r : ℕ) → R (refusal k r) (refusal k r)) → ((i : ℕ) → Only (Number i))
      → ((x y : A) → rest x → rest' y → R x y) → (x y : A) → FirstBad A refusal m Number rest x
      → FirstBad A refusal m Number rest' y → R x y
  first_bad_both {refusal} a one o x y (bad r k l before is not) (bad r' k' l' before' is' not') =
      pick (dec_lt r r') (dec_lt r' r)
    where
      pick : Dec (r < r') → Dec (r' < r) → R (refusal k r) (refusal k' r')
      pick (yes h) e = absurd (not (one r k 0 is (before' r h)))
      pick (no h) (yes g) = absurd (not' (one r' k' 0 is' (before r' g)))
      pick (no h) (no g) =
          let e : r ≡ r' = omega arith in let f : k ≡ k' = one r k k' is (rw e is') in rw (e, f) (a k' r')
  first_bad_both a one o x y (bad r k l before is not) (fine all p) = absurd (not (one r k 0 is (all r l)))
  first_bad_both a one o x y (fine all p) (bad r k l before is not) = absurd (not (one r k 0 is (all r l)))
  first_bad_both a one o x y (fine all p) (fine all' q) = o x y p q

module _ {A : Type 0} {no : A} {Ok : Type 0} {rest : A → Type 0} where
  -- one outcome, where what follows the good condition allows one
  pub unless_good_only : (Ok → Only rest) → Only (Unless A no Ok rest)
  unless_good_only o = unless_both (λ x y. x ≡ y) refl o

  pub unless_only : Only rest → Only (Unless A no Ok rest)
  unless_only o = unless_good_only (λ _. o)

  -- an outcome that differs from the refusal has passed
  pub past : {x : A} → (no ≡ x → ⊥) → Unless A no Ok rest x → Ok × rest x
  past n (refused c) = absurd (n refl)
  past n (passed k p) = (k, p)

  -- what is good refuses nothing
  pub settled : {x : A} → Ok → Unless A no Ok rest x → rest x
  settled k (refused c) = absurd (c k)
  settled k (passed o p) = p

pub unless_map : {A B : Type 0} (f : A → B) {no : A} {Ok : Type 0} {rest : A → Type 0} {rest' : B → Type 0} {x : A}
    → (Ok → rest x → rest' (f x)) → Unless A no Ok rest x → Unless B (f no) Ok rest' (f x)
unless_map f g (refused c) = refused c
unless_map f g (passed k p) = passed k (g k p)

-- the good condition in other words, and what follows alike
pub unless_alike : {A : Type 0} {no : A} {Ok Ok' : Type 0} {rest rest' : A → Type 0} {x : A} → (Ok → Ok') → (Ok' → Ok)
    → (rest x → rest' x) → Unless A no Ok rest x → Unless A no Ok' rest' x
unless_alike to fro f (refused c) = refused (λ k. c (fro k))
unless_alike to fro f (passed k p) = passed (to k) (f p)

module _ {A : Type 0} {refusal : ℕ → ℕ → A} {m : ℕ} {Number : ℕ → ℕ → Type 0} {rest : A → Type 0} where
  pub first_bad_only : ((i : ℕ) → Only (Number i)) → Only rest → Only (FirstBad A refusal m Number rest)
  first_bad_only one o = first_bad_both (λ x y. x ≡ y) (λ k r. refl) one o

  -- an outcome that is no refusal comes of good rows alone
  pub past_rows : {x : A} → ((k r : ℕ) → (k ≡ 0 → ⊥) → Number r k → refusal k r ≡ x → ⊥)
      → FirstBad A refusal m Number rest x → ((i : ℕ) → i < m → Number i 0) × rest x
  past_rows n (bad r k l before is not) = absurd (n k r not is refl)
  past_rows n (fine all p) = (all, p)

  -- and good rows refuse nothing
  pub settled_rows : {x : A} → ((i : ℕ) → Only (Number i)) → ((i : ℕ) → i < m → Number i 0)
      → FirstBad A refusal m Number rest x → rest x
  settled_rows one all (bad r k l before is not) = absurd (not (one r k 0 is (all r l)))
  settled_rows one all (fine o p) = p

pub first_bad_map : {A B : Type 0} (f : A → B) {refusal : ℕ → ℕ → A} {m : ℕ} {Number : ℕ → ℕ → Type 0}
    {rest : A → Type 0} {rest' : B → Type 0} {x : A} → (((i : ℕ) → i < m → Number i 0) → rest x → rest' (f x))
    → FirstBad A refusal m Number rest x → FirstBad B (λ k r. f (refusal k r)) m Number rest' (f x)
first_bad_map f g (bad r k l before is not) = bad r k l before is not
first_bad_map f g (fine all p) = fine all (g all p)

-- each row's number in other words, and what follows alike
pub first_bad_alike : {A : Type 0} {refusal : ℕ → ℕ → A} {m : ℕ} {Number Number' : ℕ → ℕ → Type 0}
    {rest rest' : A → Type 0} {x : A} → ((r k : ℕ) → Number r k → Number' r k) → (rest x → rest' x)
    → FirstBad A refusal m Number rest x → FirstBad A refusal m Number' rest' x
first_bad_alike to f (bad r k l before is not) = bad r k l (λ i h. to i 0 (before i h)) (to r k is) not
first_bad_alike to f (fine all p) = fine (λ i h. to i 0 (all i h)) (f p)

-- what holds of the refusal, or of each row's, and of what follows, holds of the outcome
module _ {A : Type 0} (C : A → Type 0) where
  pub by_unless : {no : A} {Ok : Type 0} {rest : A → Type 0} → C no → (Ok → (x : A) → rest x → C x) → {x : A}
      → Unless A no Ok rest x → C x
  by_unless a f (refused n) = a
  by_unless a f (passed o r) = f o _ r

  pub by_rows : {refusal : ℕ → ℕ → A} {m : ℕ} {Number : ℕ → ℕ → Type 0} {rest : A → Type 0}
      → ((k r : ℕ) → r < m → Number r k → C (refusal k r)) → ((x : A) → rest x → C x) → {x : A}
      → FirstBad A refusal m Number rest x → C x
  by_rows a f (bad r k l _ is _) = a k r l is
  by_rows a f (fine _ r) = f _ r
