-- Pair order: strict, transitive and total; every pair comes after (0, 0).
use Prim.Native.Nat.{ℕ, ◌≤◌, ◌<◌}
use mathlib.Core.Path.{◌≡◌, sym, ◌∙◌}
use native.Mathlib.Omega.{arith}
use native.Mathlib.Decide.{dec_lt}
use Rattle.pages.specs.Listing.{Entry, After, first, second, Before}

pub after_trans : {s t : ℕ} {x y : Entry} → After s t x → Before x y → After s t y
after_trans (first a) (first b) = first (omega arith)
after_trans (first a) (second b c) = first (omega arith)
after_trans (second a d) (first b) = first (omega arith)
after_trans (second a d) (second b c) = second (a ∙ b) (omega arith)

pub after_self : {x : Entry} → Before x x → ⊥
after_self (first a) = omega arith
after_self (second a b) = omega arith

pub after_both : {x y : Entry} → Before x y → Before y x → ⊥
after_both p q = after_self (after_trans p q)

pub after_start : (e : Entry) → e.low < e.high → After 0 0 e
after_start e h = pick (dec_lt 0 e.low)
  where
    pick : Dec (0 < e.low) → After 0 0 e
    pick (yes z) = first z
    pick (no z) = second (omega arith) (omega arith)

-- nothing whose first node is below s comes after (s, t)
pub not_before : {s t : ℕ} {e : Entry} → After s t e → s ≤ e.low
not_before (first a) = omega arith
not_before (second a b) = omega arith

-- where the first node is s, the second is above t
pub after_second : {s t : ℕ} {e : Entry} → After s t e → e.low ≡ s → t < e.high
after_second (first a) h = absurd (omega arith)
after_second (second a b) h = b

-- neither comes before the other: one pair
pub one_pair : (e f : Entry) → ¬ Before e f → ¬ Before f e → (e.low ≡ f.low) × (e.high ≡ f.high)
one_pair e f m o = pick (dec_lt e.low f.low) (dec_lt f.low e.low)
  where
    pick : Dec (e.low < f.low) → Dec (f.low < e.low) → (e.low ≡ f.low) × (e.high ≡ f.high)
    pick (yes h) d = absurd (m (first h))
    pick (no h) (yes k) = absurd (o (first k))
    pick (no h) (no k) = (low, seconds (dec_lt e.high f.high) (dec_lt f.high e.high))
      where
        low : e.low ≡ f.low
        low = omega arith

        seconds : Dec (e.high < f.high) → Dec (f.high < e.high) → e.high ≡ f.high
        seconds (yes i) d = absurd (m (second low i))
        seconds (no i) (yes j) = absurd (o (second (sym low) j))
        seconds (no i) (no j) = omega arith
