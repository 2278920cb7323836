-- Decimal digits: each number has one text, a text is of one number and begins with 0 only where that is 0, and how
-- long it is. By the number of digits, which falls with each division by 10.
use mathlib.Core.Path.{◌≡◌, refl, sym, ap, ◌∙◌}
use mathlib.Core.List.{List, [], ◌∷◌, ◌++◌}
use Prim.Native.Nat.{ℕ, zero, suc, ◌+◌, ◌-◌, ◌*◌, ◌/◌, ◌%◌, ◌^◌, ◌≤◌, ◌<◌}
use native.Mathlib.Omega.{arith}
use lib.IntN.{ℤ, pos, negsuc}
use lib.ListN.{length, length-append}
use mir.Syntax.{w64}
use mir.Val.{SFits}
use Rattle.text.specs.Decimal.{Decimal, digit, more, decimal, decimal_is, signed}

-- x has k digits
pub data Size : ℕ → ℕ → Type 0 where
  one : {x : ℕ} → x < 10 → Size x 1
  longer : {x k : ℕ} → 10 ≤ x → Size (x / 10) k → Size x (suc k)

-- the k lowest digits of x, highest first
unfoldable pub digits : ℕ → ℕ → List ℕ
digits zero x = []
digits (suc k) x = digits k (x / 10) ++ (48 + x % 10) ∷ []

pub size_only : {x k j : ℕ} → Size x k → Size x j → k ≡ j
size_only (one h) (one g) = refl
size_only (one h) (longer g s) = absurd (omega arith)
size_only (longer g s) (one h) = absurd (omega arith)
size_only (longer g s) (longer h t) = ap suc (size_only s t)

size_few : {x k : ℕ} → Size x k → (j : ℕ) → x < 10 ^ suc j → k ≤ suc j
size_few (one h) j g = omega arith
size_few (longer {x} h s) zero g = absurd (omega arith)
size_few (longer {x} {k} h s) (suc j) g = let w : k ≤ suc j = size_few s j (omega arith) in omega arith

pub digits_length : (k x : ℕ) → length (digits k x) ≡ k
unfolding digits
digits_length zero x = refl
digits_length (suc k) x =
    omega (arith, length-append (digits k (x / 10)) ((48 + x % 10) ∷ []), digits_length k (x / 10))

-- what a text of x is: as many of its digits
decimal_digits : {x : ℕ} {t : List ℕ} → Decimal x t → (k : ℕ) × Size x k × (t ≡ digits k x)
unfolding digits
decimal_digits (digit {d} h) = let e : d % 10 ≡ d = omega arith in (1, one {x = d} (omega arith), rw e)
decimal_digits (more {x} {d} {t} p o h) =
    let w = decimal_digits p in
    let e : (10 * x + d) / 10 ≡ x = omega arith in
    let f : (10 * x + d) % 10 ≡ d = omega arith in (
      suc w.0,
      longer {x = 10 * x + d} {k = w.0} (omega arith) (rw e w.1),
      rw (e, f) (ap (λ (l : List ℕ). l ++ (48 + d) ∷ []) w.2),
    )

-- so there is one
pub decimal_one : {x : ℕ} {t u : List ℕ} → Decimal x t → Decimal x u → t ≡ u
decimal_one {x} p q =
    let v = decimal_digits p in
    let w = decimal_digits q in
    v.2 ∙ ap (λ (k : ℕ). digits k x) (size_only v.1 w.1) ∙ sym w.2

-- as many digits as counted
pub size_text : {x k : ℕ} → Size x k → (decimal x ≡ digits k x) × (length (decimal x) ≡ k)
size_text {x} {k} s =
    let w = decimal_digits (decimal_is x) in
    let e : decimal x ≡ digits k x = w.2 ∙ ap (λ (n : ℕ). digits n x) (size_only w.1 s) in
    (e, ap length e ∙ digits_length k x)

pub length_size : (x : ℕ) → Size x (length (decimal x))
length_size x = let w = decimal_digits (decimal_is x) in rw (size_text w.1).1 w.1

-- the number that digits make
value : ℕ → List ℕ → ℕ
value a [] = a
value a (b ∷ t) = value (10 * a + (b - 48)) t

value_snoc : (a b : ℕ) (t : List ℕ) → value a (t ++ b ∷ []) ≡ 10 * value a t + (b - 48)
unfolding value
value_snoc a b [] = refl
value_snoc a b (c ∷ t) = value_snoc (10 * a + (c - 48)) b t

decimal_value : {x : ℕ} {t : List ℕ} → Decimal x t → value 0 t ≡ x
unfolding value
decimal_value (digit {d} h) = omega arith
decimal_value (more {x} {d} {t} p o h) = omega (arith, value_snoc 0 (48 + d) t, decimal_value p)

-- a text is of one number
pub number_one : {x y : ℕ} {t : List ℕ} → Decimal x t → Decimal y t → x ≡ y
number_one p q = sym (decimal_value p) ∙ decimal_value q

-- two numbers have two texts
pub decimal_apart : (x y : ℕ) → decimal x ≡ decimal y → x ≡ y
decimal_apart x y e = sym (decimal_value (decimal_is x)) ∙ ap (value 0) e ∙ decimal_value (decimal_is y)

pub decimal_some : (x : ℕ) → 1 ≤ length (decimal x)
decimal_some x = pick (length_size x)
  where
    pick : {k : ℕ} → Size x k → 1 ≤ k
    pick (one h) = omega arith
    pick (longer h s) = omega arith

pub text_some : {x : ℕ} {t : List ℕ} → Decimal x t → 1 ≤ length t
text_some {x} p = rw (decimal_one p (decimal_is x)) (decimal_some x)

-- digits alone
pub data AllDigits : List ℕ → Type 0 where
  none : AllDigits []
  next : {b : ℕ} {t : List ℕ} → 48 ≤ b → b ≤ 57 → AllDigits t → AllDigits (b ∷ t)

all_snoc : {t : List ℕ} {b : ℕ} → AllDigits t → 48 ≤ b → b ≤ 57 → AllDigits (t ++ b ∷ [])
all_snoc none lo hi = next lo hi none
all_snoc (next l h d) lo hi = next l h (all_snoc d lo hi)

pub text_digits : {x : ℕ} {t : List ℕ} → Decimal x t → AllDigits t
text_digits (digit {d} h) = next {b = 48 + d} (omega arith) (omega arith) none
text_digits (more {d} p o h) = all_snoc {b = 48 + d} (text_digits p) (omega arith) (omega arith)

-- a text that begins with 0 is that of 0
pub leading_zero : {x : ℕ} {t : List ℕ} → Decimal x t → (u : List ℕ) → t ≡ 48 ∷ u → x ≡ 0
leading_zero (digit {d} h) u e = let z : 48 + d ≡ 48 = cc in omega arith
leading_zero (more {x} {d} {t} p o h) u e = absurd (pick t (text_some p) (λ v f. leading_zero p v f) e)
  where
    pick : (t : List ℕ) → 1 ≤ length t → ((v : List ℕ) → t ≡ 48 ∷ v → x ≡ 0) → t ++ (48 + d) ∷ [] ≡ 48 ∷ u → ⊥
    pick [] l f e = omega arith
    pick (b ∷ t) l f e = let z : b ≡ 48 = cc in omega (arith, f t (cc))

-- a number of 64 bits takes at most 20 bytes, a signed one too
pub decimal_few : (x : ℕ) → x < 18446744073709551616 → length (decimal x) ≤ 20
decimal_few x h = size_few (length_size x) 19 (omega arith)

-- half of them at most 19
pub decimal_short : (x : ℕ) → x ≤ 9223372036854775808 → length (decimal x) ≤ 19
decimal_short x h = size_few (length_size x) 18 (omega arith)

pub decimal_few_32 : (x : ℕ) → x < 4294967296 → length (decimal x) ≤ 10
decimal_few_32 x h = size_few (length_size x) 9 (omega arith)

pub decimal_few_16 : (x : ℕ) → x < 65536 → length (decimal x) ≤ 5
decimal_few_16 x h = size_few (length_size x) 4 (omega arith)

pub signed_few : (z : ℤ) → SFits w64 z → length (signed z) ≤ 20
unfolding signed
signed_few (pos n) f = omega (arith, f.sfits, size_few (length_size n) 18 (omega (arith, f.sfits)))
signed_few (negsuc n) f = omega (arith, f.sfits, size_few (length_size (suc n)) 18 (omega (arith, f.sfits)))
