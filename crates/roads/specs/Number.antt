-- Numbers in a road-graph text: decimal digits with no leading zero, and the byte that ends them.
use Rattle.std.specs.Prelude.{◌≡◌, List, ◌∷◌, ◌++◌, ℕ, ◌+◌, ◌≤◌}
use Rattle.text.specs.Decimal.{Decimal}

-- s begins with the number x and then the byte `end`; r is what follows
pub record Field (x end : ℕ) (s r : List ℕ) : Type 0 where
  pub digits : List ℕ
  pub spelt : s ≡ digits ++ end ∷ r
  pub decimal : Decimal x digits

-- s begins with a number from −low to top and then a line feed (byte 10); b is that number in 32 bits, a negative one
-- in two's complement; r is what follows. A minus (byte 45) stands only before a number that is not 0
pub data ArcNumber (top low : ℕ) : ℕ → List ℕ → List ℕ → Type 0 where
  plain : {x : ℕ} {s r : List ℕ} → Field x 10 s r → x ≤ top → ArcNumber top low x s r
  minus : {x b : ℕ} {s q r : List ℕ} → s ≡ 45 ∷ q → Field x 10 q r → 1 ≤ x → x ≤ low → b + x ≡ 4294967296
      → ArcNumber top low b s r
