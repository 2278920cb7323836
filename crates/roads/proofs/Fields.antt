-- A number at the front of a text is one, and so is what follows it: its digits go on up to the byte that ends it,
-- which is none, so they are the same digits in any two readings, and digits are of one number. How long a number is
-- with that byte; and that an arc's number has 32 bits.
use mathlib.Core.Path.{◌≡◌, refl, sym, ap, ◌∙◌}
use mathlib.Core.List.{List, [], ◌∷◌, ◌++◌}
use Prim.Native.Nat.{ℕ, ◌+◌, ◌≤◌, ◌<◌}
use native.Mathlib.Omega.{arith}
use lib.ListN.{length, length-append}
use Rattle.text.specs.Decimal.{Decimal}
use Rattle.text.proofs.Decimals.{AllDigits, none, next, text_digits, text_some, number_one}
use Rattle.roads.specs.Number.{Field, ArcNumber, plain, minus}
use Rattle.roads.proofs.Places.{empty_not, empty_within}

-- begins with no digit
pub data NoDigit : List ℕ → Type 0 where
  empty : NoDigit []
  byte : {b : ℕ} {t : List ℕ} → (48 ≤ b → b ≤ 57 → ⊥) → NoDigit (b ∷ t)

pub ended_by : {end : ℕ} {r : List ℕ} → end < 48 → NoDigit (end ∷ r)
ended_by {end} small = byte {b = end} (λ lo hi. omega arith)

no_digit_first : {p q : List ℕ} {c : ℕ} → NoDigit p → p ≡ c ∷ q → 48 ≤ c → c ≤ 57 → ⊥
no_digit_first empty e lo hi = empty_not refl e
no_digit_first {c = c} (byte {b} n) e lo hi = let z : b ≡ c = cc in n (omega arith) (omega arith)

-- where digits end is one
pub split : {t u p q : List ℕ} → AllDigits t → NoDigit p → AllDigits u → NoDigit q → t ++ p ≡ u ++ q → (t ≡ u) × (p ≡ q)
split none ep none eq e = (refl, e)
split none ep (next lo hi d) eq e = absurd (no_digit_first ep e lo hi)
split (next lo hi d) ep none eq e = absurd (no_digit_first eq (sym e) lo hi)
split {t = b ∷ t} {u = c ∷ u} {p} {q} (next _ _ d) ep (next _ _ d') eq e =
    let x : b ≡ c = cc in
    let y : t ++ p ≡ u ++ q = cc in
    let z = split d ep d' eq y in
    (cc (x, z.0), z.1)

pub field_only : {x y end : ℕ} {s r q : List ℕ} → end < 48 → Field x end s r → Field y end s q → (x ≡ y) × (r ≡ q)
field_only {y = y} small f g =
    let e = sym f.spelt ∙ g.spelt in
    let w = split (text_digits f.decimal) (ended_by small) (text_digits g.decimal) (ended_by small) e in
    let d : Decimal y f.digits = rw w.0 g.decimal in
    (number_one f.decimal d, cc w.1)

-- a number begins with a digit
pub field_first : {x end b : ℕ} {s r q : List ℕ} → Field x end s r → s ≡ b ∷ q → (48 ≤ b) × (b ≤ 57)
field_first {end = end} {b = b} {r = r} {q = q} f e =
    first f.digits (text_digits f.decimal) (text_some f.decimal) (sym f.spelt ∙ e)
  where
    first : (u : List ℕ) → AllDigits u → 1 ≤ length u → u ++ end ∷ r ≡ b ∷ q → (48 ≤ b) × (b ≤ 57)
    first [] d l e = absurd (omega arith)
    first (c ∷ u) (next lo hi d) l e = let z : c ≡ b = cc in (omega arith, omega arith)

-- so with no minus
no_minus : {x end : ℕ} {s r q : List ℕ} → Field x end s r → s ≡ 45 ∷ q → ⊥
no_minus f e = let w = field_first f e in omega arith

pub field_some : {x end : ℕ} {s r : List ℕ} → Field x end s r → s ≡ [] → ⊥
field_some f e = empty_within f.digits _ _ e f.spelt

pub field_long : {x end : ℕ} {s r : List ℕ} → Field x end s r → 2 + length r ≤ length s
field_long {end = end} {r = r} f =
    omega (arith, ap length f.spelt, length-append f.digits (end ∷ r), text_some f.decimal)

module _ {top low : ℕ} where
  pub number_only : {b d : ℕ} {s r q : List ℕ} → ArcNumber top low b s r → ArcNumber top low d s q → (b ≡ d) × (r ≡ q)
  number_only (plain f _) (plain g _) = field_only (omega arith) f g
  number_only (plain f _) (minus e g _ _ _) = absurd (no_minus f e)
  number_only (minus e f _ _ _) (plain g _) = absurd (no_minus g e)
  number_only (minus {q = q} e f _ _ z) (minus {q = p} e' g _ _ z') =
      let k : p ≡ q = cc (e, e') in
      let w = field_only (omega arith) f (rw k at g) in
      (omega (arith, w.0), w.1)

  pub number_some : {b : ℕ} {s r : List ℕ} → ArcNumber top low b s r → s ≡ [] → ⊥
  number_some (plain f _) e = field_some f e
  number_some (minus g _ _ _ _) e = empty_not e g

  -- where no minus stands it is the number itself, and where one stands a number follows it
  pub number_plain : {b c : ℕ} {s r q : List ℕ} → ArcNumber top low b s r → s ≡ c ∷ q → (c ≡ 45 → ⊥)
      → Field b 10 s r × (b ≤ top)
  number_plain (plain f hi) e n = (f, hi)
  number_plain (minus k _ _ _ _) e n = absurd (n (cc (k, e)))

  pub number_minus : {b : ℕ} {s r q : List ℕ} → ArcNumber top low b s r → s ≡ 45 ∷ q
      → (x : ℕ) × Field x 10 q r × (1 ≤ x) × (x ≤ low)
  number_minus (plain f _) e = absurd (no_minus f e)
  number_minus {q = q} (minus {x} {q = p} k f lo hi _) e = let z : p ≡ q = cc (k, e) in (x, rw z at f, lo, hi)

  pub number_long : {b : ℕ} {s r : List ℕ} → ArcNumber top low b s r → 2 + length r ≤ length s
  number_long (plain f _) = field_long f
  number_long (minus e f _ _ _) = omega (arith, ap length e, field_long f)

  pub number_bits : {b : ℕ} {s r : List ℕ} → top < 4294967296 → ArcNumber top low b s r → b < 4294967296
  number_bits small (plain f hi) = omega arith
  number_bits small (minus e f lo hi z) = omega arith
