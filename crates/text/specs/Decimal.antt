-- Numbers as text: decimal digits, bytes 48 to 57, the highest first.
use Rattle.std.specs.Prelude.{List, [], ◌∷◌, ◌++◌, ℕ, zero, suc, ◌+◌, ◌*◌, ◌/◌, ◌%◌, ◌≤◌, ◌<◌, ◌≡◌, ℤ, pos, negsuc}
use Rattle.std.proofs.Common.{arith}
use Rattle.std.proofs.Math.Decide.{dec_lt}

-- t is the number x in decimal digits, with no leading zero
pub data Decimal : ℕ → List ℕ → Type 0 where
  digit : {d : ℕ} → d ≤ 9 → Decimal d ((48 + d) ∷ [])
  more : {x d : ℕ} {t : List ℕ} → Decimal x t → 1 ≤ x → d ≤ 9 → Decimal (10 * x + d) (t ++ (48 + d) ∷ [])

spelt : (f x : ℕ) → x ≤ f → (t : List ℕ) × Decimal x t
spelt zero x h = ((48 + x) ∷ [], digit {d = x} (omega arith))
spelt (suc f) x h = pick (dec_lt x 10) (spelt f (x / 10))
  where
    pick : Dec (x < 10) → (x / 10 ≤ f → (t : List ℕ) × Decimal (x / 10) t) → (t : List ℕ) × Decimal x t
    pick (yes l) g = ((48 + x) ∷ [], digit {d = x} (omega arith))
    pick (no n) g =
        let w = g (omega arith) in
        let e : 10 * (x / 10) + x % 10 ≡ x = omega arith in
        (w.0 ++ (48 + x % 10) ∷ [], rw e at (more {d = x % 10} w.1 (omega arith) (omega arith)))

-- the text of x: there is one, and one only (`decimal_one`, proofs/Decimals)
pub decimal : ℕ → List ℕ
decimal x = (spelt x x (omega arith)).0

pub decimal_is : (x : ℕ) → Decimal x (decimal x)
unfolding decimal
decimal_is x = (spelt x x (omega arith)).1

-- the text of a signed number: below 0 a minus, byte 45, stands before its digits
unfoldable pub signed : ℤ → List ℕ
signed (pos n) = decimal n
signed (negsuc n) = 45 ∷ decimal (suc n)
