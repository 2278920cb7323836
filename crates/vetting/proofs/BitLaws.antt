-- Bits of a number, and a set of numbers as bits: what one more put in leaves of the others. A bit is reached by
-- halving, so each law goes down one bit at a time.
use Prim.Native.Nat.{ℕ, zero, suc, ◌+◌, ◌*◌, ◌/◌, ◌%◌, ◌^◌, ◌<◌}
use mathlib.Core.Path.{◌≡◌, refl, sym, ap, ◌∙◌}
use mathlib.Core.Logic.{◌≢◌}
use mathlib.Core.List.{List}
use native.Mathlib.Omega.{arith}
use native.Mathlib.Nat.{pow-suc, div-div-eq-div-mul, mod-eq_of_lt}
use lib.Pow.{pow-lt}
use mathlib.Core.Bool.{true, false, true≢false, false≢true}
use lib.ListN.{length, set, length-set, get_or-eq_default}
use lib.Seq.{get_or-set_same, get_or-set_other}
use Rattle.arrays.specs.At.{at}
use Rattle.arrays.specs.work.Filled.{Filled}
use native.Mathlib.Decide.{dec_lt, ℕ_discrete}
use Rattle.vetting.specs.work.Bits.{bit, Has, PutIn}

bit_two : (k w : ℕ) → bit k w < 2
unfolding bit
bit_two zero w = omega arith
bit_two (suc k) w = bit_two k (w / 2)

pow_more : (k : ℕ) → 2 ^ suc k ≡ 2 * 2 ^ k
pow_more k = omega (arith, pow-suc 2 k)

half_add : (w k : ℕ) → (w + 2 ^ suc k) / 2 ≡ w / 2 + 2 ^ k
half_add w k = omega (arith, pow_more k)

bit_set : (k w : ℕ) → bit k w ≡ 0 → bit k (w + 2 ^ k) ≡ 1
unfolding bit
bit_set zero w h = omega arith
bit_set (suc k) w h = rw (half_add w k) (bit_set k (w / 2) h)

bit_other : (k w : ℕ) → bit k w ≡ 0 → (j : ℕ) → j ≢ k → bit j (w + 2 ^ k) ≡ bit j w
unfolding bit
bit_other zero w h zero n = absurd (n refl)
bit_other zero w h (suc j) n = let e : (w + 1) / 2 ≡ w / 2 = omega arith in ap (bit j) e
bit_other (suc k) w h zero n = omega (arith, pow_more k)
bit_other (suc k) w h (suc j) n = rw (half_add w k) (bit_other k (w / 2) h j (λ e. n (ap suc e)))

bit_room : (m k w : ℕ) → w < 2 ^ m → k < m → bit k w ≡ 0 → w + 2 ^ k < 2 ^ m
unfolding bit
bit_room zero k w h l b = absurd (omega arith)
bit_room (suc m) zero w h l b = omega (arith, pow_more m)
bit_room (suc m) (suc k) w h l b =
    let i = bit_room m k (w / 2) (omega (arith, pow_more m)) (omega arith) b in
    omega (arith, pow_more m, pow_more k)

pub bit_shift : (k w : ℕ) → w / 2 ^ k % 2 ≡ bit k w
unfolding bit
bit_shift zero w = let e : w / 1 ≡ w = omega arith in ap (λ x. x % 2) e
bit_shift (suc k) w =
    ap (λ x. x % 2) (ap (λ x. w / x) (pow_more k) ∙ sym (div-div-eq-div-mul w 2 (2 ^ k))) ∙ bit_shift k (w / 2)

one_shift : (k : ℕ) → k < 64 → (1 * 2 ^ k) % 18446744073709551616 ≡ 2 ^ k
one_shift k h = let e : 1 * 2 ^ k ≡ 2 ^ k = omega arith in rw e (mod-eq_of_lt (pow-lt {i = k} {j = 64} h))

pub with_room : (w k : ℕ) → w < 18446744073709551616 → k < 64 → bit k w ≡ 0
    → w + (1 * 2 ^ k) % 18446744073709551616 < 18446744073709551616
with_room w k a h b = rw (one_shift k h) (bit_room 64 k w a h b)

pub with_bits : (w k : ℕ) → k < 64 → bit k w ≡ 0
    → (bit k (w + (1 * 2 ^ k) % 18446744073709551616) ≡ 1)
    × ((j : ℕ) → (j ≡ k → ⊥) → bit j (w + (1 * 2 ^ k) % 18446744073709551616) ≡ bit j w)
with_bits w k h b = rw (one_shift k h) (bit_set k w b, λ j n. bit_other k w b j n)

pub not_one : (k w : ℕ) {x : ℕ} → x ≡ bit k w → x ≢ 1 → bit k w ≡ 0
not_one k w e n = omega (arith, bit_two k w)

pub put_not : {bits : List ℕ} {p x : ℕ} → x ≡ bit (p % 64) (at bits (p / 64)) → x ≡ 1 → PutIn bits p false bits
put_not {bits} e h =
    record {
      long = refl;
      twice = λ q. record { set = sym e ∙ h };
      new = λ q. absurd (false≢true q);
      here = λ q. absurd (false≢true q);
      keeps = λ j k. k;
      only = λ j n k. k;
    }

pub put_in : (bits : List ℕ) (p r : ℕ) {x : ℕ} → length bits ≡ 16384 → p < 1048576 → x ≡ bit (p % 64) (at bits (p / 64))
    → x ≢ 1 → (bit (p % 64) r ≡ 1) × ((j : ℕ) → (j ≡ p % 64 → ⊥) → bit j r ≡ bit j (at bits (p / 64)))
    → PutIn bits p true (set bits (p / 64) r)
put_in bits p r {x} l b e n w = record {
  long = length-set bits (p / 64) r;
  twice = λ q. absurd (true≢false q);
  new = λ q h. n (e ∙ h.set);
  here = λ q. record { set = ap (bit (p % 64)) same ∙ w.0 };
  keeps = λ j h. kept j h (ℕ_discrete (j / 64) (p / 64)) (ℕ_discrete (j % 64) (p % 64));
  only = λ j m h. lost j m h (ℕ_discrete (j / 64) (p / 64));
}
  where
    same : at (set bits (p / 64) r) (p / 64) ≡ r
    same = get_or-set_same bits (p / 64) r 0 (omega arith)

    kept : (j : ℕ) → Has bits j → Dec (j / 64 ≡ p / 64) → Dec (j % 64 ≡ p % 64) → Has (set bits (p / 64) r) j
    kept j h (no m) d = record { set = ap (bit (j % 64)) (get_or-set_other bits (p / 64) (j / 64) r 0 m) ∙ h.set }
    kept j h (yes m) (yes d) = record { set = rw (m, d, same) w.0 }
    kept j h (yes m) (no d) = record { set = rw (m, same) (w.1 (j % 64) d ∙ (rw m at h.set)) }

    lost : (j : ℕ) → j ≢ p → Has (set bits (p / 64) r) j → Dec (j / 64 ≡ p / 64) → Has bits j
    lost j m h (no o) = record { set = sym (ap (bit (j % 64)) (get_or-set_other bits (p / 64) (j / 64) r 0 o)) ∙ h.set }
    lost j m h (yes o) = record { set = rw o (sym (w.1 (j % 64) (λ d. m (omega arith))) ∙ (rw (o, same) at h.set)) }

-- an empty set has none
bit_none : (k : ℕ) → bit k 0 ≡ 0
unfolding bit
bit_none zero = refl
bit_none (suc k) = bit_none k

pub has_none : {m : ℕ} {bits : List ℕ} {p : ℕ} → Filled m 0 bits → ¬ Has bits p
has_none {m} {bits} {p} f h =
    omega (arith, h.set, ap (bit (p % 64)) (word (dec_lt (p / 64) m)), bit_none (p % 64))
  where
    word : Dec (p / 64 < m) → at bits (p / 64) ≡ 0
    word (yes l) = f.each (p / 64) l
    word (no l) = get_or-eq_default bits 0 (omega (arith, f.long))
