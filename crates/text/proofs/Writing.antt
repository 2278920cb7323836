-- The loops that write words, and count and write digits: each invariant, and for each turn of the loop one law that
-- keeps it.
use mathlib.Core.Path.{◌≡◌, refl, sym, ap, ◌∙◌}
use mathlib.Core.List.{List, [], ◌∷◌}
use Prim.Native.Nat.{ℕ, zero, suc, ◌+◌, ◌-◌, ◌*◌, ◌/◌, ◌%◌, ◌≤◌, ◌<◌}
use native.Mathlib.Omega.{arith}
use native.Mathlib.Nat.{zero-add}
use native.Mathlib.Numerals.{add-one}
use lib.ListN.{length, get_or, set, take}
use lib.Seq.{sets, set_comm, take-suc, take_all, length-take-le}
use Rattle.arrays.proofs.Stores.{sets_append}
use Rattle.text.specs.Decimal.{decimal}
use Rattle.text.specs.work.Put.{Put}
use Rattle.text.proofs.Decimals.{Size, one, longer, digits, digits_length, size_text, length_size}
use Rattle.text.proofs.Puts.{put_sets}

-- counting digits: x has k more than y
pub record Sizing (x y k : ℕ) : Type 0 where
  pub on : (j : ℕ) → Size y j → Size x (k + j)
  pub few : 9 * k + y ≤ x

pub sizing_none : (x : ℕ) → Sizing x x 0
sizing_none x = record { on = λ j s. rw (zero-add j) s; few = omega arith }

pub sizing_more : {x y k : ℕ} → Sizing x y k → 10 ≤ y → Sizing x (y / 10) (k + 1)
sizing_more {x} {y} {k} z h =
    record {
      on = λ j s. let e : k + 1 + j ≡ k + suc j = omega arith in rw e (z.on (suc j) (longer h s));
      few = omega (arith, z.few);
    }

pub sizing_done : {x y k : ℕ} → Sizing x y k → y < 10 → k + 1 ≡ length (decimal x)
sizing_done z h = sym (size_text (z.on 1 (one h))).1

-- a store beyond comes first or last
sets_set : (l : List ℕ) (i j d : ℕ) (vs : List ℕ) → i + length vs ≤ j → sets (set l j d) i vs ≡ set (sets l i vs) j d
sets_set l i j d [] h = refl
sets_set l i j d (v ∷ vs) h = rw (set_comm l j i d v (omega arith)) (sets_set (set l i v) (suc i) j d vs (omega arith))

digits_step : (out : List ℕ) (at i y : ℕ)
    → sets (set out (at + i) (48 + y % 10)) at (digits i (y / 10)) ≡ sets out at (digits (suc i) y)
unfolding digits
digits_step out at i y =
    sets_set out at (at + i) (48 + y % 10) (digits i (y / 10)) (omega (arith, digits_length i (y / 10)))
    ∙ sym
    (sets_append out at (at + i) (digits i (y / 10)) ((48 + y % 10) ∷ []) (omega (arith, digits_length i (y / 10))))

-- a number's digits are stored from the last on: those still to come, stored, make the same as before
pub digits_before : (out : List ℕ) (at j y : ℕ) → 0 < j
    → sets (set out (at + (j - 1)) (48 + y % 10)) at (digits (j - 1) (y / 10)) ≡ sets out at (digits j y)
digits_before out at zero y h = absurd (omega arith)
digits_before out at (suc i) y h = let e : suc i - 1 ≡ i = omega arith in rw e (digits_step out at i y)

-- all are stored
pub digits_put : {old out : List ℕ} {at k : ℕ} (x j y : ℕ) → k ≡ length (decimal x) → at + k ≤ length old → j ≤ 0
    → sets out at (digits j y) ≡ sets old at (digits k x) → Put old at (decimal x) out (at + k)
unfolding digits
digits_put x zero y e h l f =
    put_sets (omega (arith, e)) h (rw (size_text (length_size x)).0 (rw e at f))
digits_put x (suc j) y e h l f = absurd (omega arith)

-- a word's bytes are stored one after the other: one more
pub word_next : (old word : List ℕ) {out : List ℕ} (at : ℕ) {i : ℕ} → out ≡ sets old at (take i word)
    → i < length word → set out (at + i) (get_or word i 0) ≡ sets old at (take (i + 1) word)
word_next old word {out} at {i} h l = rw (add-one, take-suc word i 0 l)
    (rw h
    (sym
    (sets_append old at (at + i) (take i word) (get_or word i 0 ∷ [])
    (omega (arith, length-take-le i word (omega arith))))))

-- all are stored
pub word_put : {old out word : List ℕ} {at i : ℕ} → at + length word ≤ length old → length word ≤ i
    → out ≡ sets old at (take i word) → Put old at word out (at + length word)
word_put {old} {out} {word} {at} {i} r m h =
    put_sets refl r (h ∙ ap (λ (l : List ℕ). sets old at l) (take_all i word m))
