-- The loop that reads a number's digits: what stands between the place where it began and the place it has come to is a
-- number, and x carries it. It finds the byte that ends the number, or refuses: then every reading would have the same
-- digits, and that byte does not follow them; or the number would begin with 0 and go on.
use mathlib.Core.Path.{◌≡◌, sym, ap, ◌∙◌}
use mathlib.Core.List.{List, [], ◌∷◌, ◌++◌}
use Prim.Native.Nat.{ℕ, ◌+◌, ◌-◌, ◌*◌, ◌≤◌, ◌<◌}
use native.Mathlib.Omega.{arith}
use lib.ListN.{length, get_or, drop, drop_of_length-le}
use Rattle.std.proofs.Common.{Some, None}
use Rattle.std.specs.Char.{IsAsciiDigit, IsNotAsciiDigit}
use Rattle.text.specs.Decimal.{Decimal, digit, more}
use Rattle.text.proofs.Decimals.{text_digits, text_some, decimal_one, leading_zero}
use Rattle.roads.specs.work.Scanned.{Carries, Longer, FieldOf, number, nothing}
use Rattle.roads.proofs.Places.{from_place, byte_there, passed_more, empty_not}
use Rattle.roads.proofs.Fields.{NoDigit, empty, byte, ended_by, split, field_first, field_some}

-- no digit where the number should begin
pub scan_past : {s : List ℕ} {at : ℕ} (end : ℕ) → length s ≤ at → FieldOf s at end None
scan_past {s} end h = nothing (λ y r f. field_some f (drop_of_length-le s h))

pub scan_none : {s : List ℕ} {at : ℕ} (end : ℕ) → at < length s → IsNotAsciiDigit (get_or s at 0)
    → FieldOf s at end None
scan_none {s} {at} end h n = nothing λ y r f. let w = field_first f (from_place s at h) in omega arith

-- the digits from place `at` up to i, and the number that they make
pub record Scan (s : List ℕ) (at i x : ℕ) : Type 0 where
  pub text : List ℕ
  pub is : ℕ
  pub spelt : drop at s ≡ text ++ drop i s
  pub decimal : Decimal is text
  pub carries : Carries x is
  pub after : at < i

one_digit : (b : ℕ) → 48 ≤ b → b ≤ 57 → Decimal (b - 48) (b ∷ [])
one_digit b lo hi = let e : 48 + (b - 48) ≡ b = omega arith in rw e at (digit {d = b - 48} (omega arith))

digit_more : {x : ℕ} {t : List ℕ} (b : ℕ) → Decimal x t → 1 ≤ x → 48 ≤ b → b ≤ 57
    → Decimal (10 * x + (b - 48)) (t ++ b ∷ [])
digit_more b p o lo hi = let e : 48 + (b - 48) ≡ b = omega arith in rw e at (more {d = b - 48} p o (omega arith))

pub scan_first : (s : List ℕ) (at : ℕ) → at < length s → IsAsciiDigit (get_or s at 0)
    → Scan s at (at + 1) (get_or s at 0 - 48)
scan_first s at h (lo, hi) = record {
  text = get_or s at 0 ∷ [];
  is = get_or s at 0 - 48;
  spelt = from_place s at h;
  decimal = one_digit (get_or s at 0) lo hi;
  carries = omega arith;
  after = omega arith;
}

-- no digit follows a leading zero
zero_alone : {y : ℕ} (end c : ℕ) (r q u : List ℕ) → Decimal y u → u ++ end ∷ r ≡ 48 ∷ c ∷ q → end ≡ c
zero_alone end c r q [] d e = absurd (omega (arith, text_some d))
zero_alone end c r q (b ∷ u) d e =
    let z : b ≡ 48 = cc in
    let zero : Decimal 0 (b ∷ u) = rw (leading_zero d u (ap (λ (k : ℕ). k ∷ u) z)) at d in
    let g : b ∷ u ≡ 48 ∷ [] = decimal_one zero (digit {d = 0} (omega arith)) in
    let f : u ++ end ∷ r ≡ c ∷ q = cc in
    let v : u ≡ [] = cc in
    let h : end ∷ r ≡ c ∷ q = rw v at f in
    cc (h)

module _ {s : List ℕ} {at i x : ℕ} (k : Scan s at i x) where
  pub scan_more : {r : ℕ} → i < length s → IsAsciiDigit (get_or s i 0) → (x ≡ 0 → ⊥)
      → Longer x (get_or s i 0) r → Scan s at (i + 1) r
  scan_more {r} h (lo, hi) n g = record {
    text = k.text ++ get_or s i 0 ∷ [];
    is = 10 * k.is + (get_or s i 0 - 48);
    spelt = passed_more k.text s i h k.spelt;
    decimal = digit_more (get_or s i 0) k.decimal (omega (arith, k.carries)) lo hi;
    carries = g.carries k.is k.carries;
    after = omega (arith, k.after);
  }

  pub scan_found : {end : ℕ} → i < length s → get_or s i 0 ≡ end →
      FieldOf s at end (Some (record { value = x; next = i + 1 }))
  scan_found {end} h e = number
      (record { digits = k.text; spelt = rw (← byte_there s i end h e) k.spelt; decimal = k.decimal })
      k.carries
      (record { on = omega (arith, k.after); within = omega arith })

  module _ {end : ℕ} (small : end < 48) where
    -- where the digits end, the byte `end` does not stand
    scan_ends : NoDigit (drop i s) → ((r : List ℕ) → drop i s ≡ end ∷ r → ⊥) → FieldOf s at end None
    scan_ends ends n = nothing λ y r f.
        let e = sym k.spelt ∙ f.spelt in
        n r (split (text_digits k.decimal) ends (text_digits f.decimal) (ended_by small) e).1

    pub scan_out : length s ≤ i → FieldOf s at end None
    scan_out h = let e : drop i s ≡ [] = drop_of_length-le s h in scan_ends (rw e empty) (λ r f. empty_not e f)

    pub scan_other : i < length s → (get_or s i 0 ≡ end → ⊥) → IsNotAsciiDigit (get_or s i 0) → FieldOf s at end None
    scan_other h n d =
        let e = from_place s i h in
        scan_ends
        (rw e (byte (λ (lo : 48 ≤ get_or s i 0) (hi : get_or s i 0 ≤ 57). omega arith)))
        (λ r f. n (cc (e, f)))

    pub scan_zero : i < length s → x ≡ 0 → IsAsciiDigit (get_or s i 0) → FieldOf s at end None
    scan_zero h z (lo, hi) =
        nothing λ y r f.
        let w : k.is ≡ 0 = omega (arith, k.carries) in
        let e = decimal_one (rw w at k.decimal) (digit {d = 0} (omega arith)) in
        let p = from_place s i h in
        let g : f.digits ++ end ∷ r ≡ 48 ∷ get_or s i 0 ∷ drop (i + 1) s = cc (f.spelt, k.spelt, e, p) in
        omega (arith, zero_alone end (get_or s i 0) r (drop (i + 1) s) f.digits f.decimal g)
