-- Lines and bits of pairs: each first node has one line, a pair of a block has one bit, and a bit of the block one
-- pair. A line has n bits, so two bits that are one have the same line and the same column; of the two first nodes that
-- a line serves the lower has its columns behind the line's number and the upper before it.
use Prim.Native.Nat.{ℕ, suc, ◌+◌, ◌-◌, ◌*◌, ◌≤◌, ◌<◌}
use mathlib.Core.Path.{◌≡◌, refl, sym, ap, ◌∙◌}
use mathlib.Core.Bool.{Bool, true}
use mathlib.Core.List.{List}
use native.Mathlib.Omega.{arith}
use native.Mathlib.Decide.{dec_lt, dec_le}
use native.Mathlib.Nat.{mul-suc, mul-le-mul_left}
use Rattle.vetting.specs.work.Bits.{PutIn}
use Rattle.vetting.specs.work.Lines.{Line, Column, InBlock, LineDone, Slot, LineAsked, SlotAsked, Block, Admitted}

-- n bits for each line before
pub stride : (n : ℕ) {q h : ℕ} → q < h → n * q + n ≤ n * h
stride n {q} l = omega (arith, mul-suc n q, mul-le-mul_left {m = suc q} n l)

-- one line, one column
pub line_only : {n a t u : ℕ} → Line n a t → Line n a u → t ≡ u
line_only {n} {a} {t} {u} p q = pick (dec_lt (2 * a) n)
  where
    pick : Dec (2 * a < n) → t ≡ u
    pick (yes h) = omega (arith, p.lower h, q.lower h)
    pick (no h) = omega (arith, p.upper (omega arith), q.upper (omega arith))

pub line_some : {n a : ℕ} → a < n → (t : ℕ) × Line n a t
line_some {n} {a} b = pick (dec_lt (2 * a) n)
  where
    pick : Dec (2 * a < n) → (t : ℕ) × Line n a t
    pick (yes h) = (a, record { lower = λ _. refl; upper = λ k. absurd (omega arith) })
    pick (no h) = (n - 1 - a, record { lower = λ k. absurd (omega arith); upper = λ _. omega arith })

-- a line is of the lower half
pub line_half : {n a t : ℕ} → a < n → Line n a t → 2 * t < n
line_half {n} {a} {t} b p = pick (dec_lt (2 * a) n)
  where
    pick : Dec (2 * a < n) → 2 * t < n
    pick (yes h) = omega (arith, p.lower h)
    pick (no h) = omega (arith, p.upper (omega arith))

column_only : {n a b c d : ℕ} → Column n a b c → Column n a b d → c ≡ d
column_only {n} {a} {b} {c} {d} p q = pick (dec_lt (2 * a) n)
  where
    pick : Dec (2 * a < n) → c ≡ d
    pick (yes h) = omega (arith, p.lower h, q.lower h)
    pick (no h) = omega (arith, p.upper (omega arith), q.upper (omega arith))

column_low : {n a b c : ℕ} → b < n → Column n a b c → c < n
column_low {n} {a} {b} {c} l p = pick (dec_lt (2 * a) n)
  where
    pick : Dec (2 * a < n) → c < n
    pick (yes h) = omega (arith, p.lower h)
    pick (no h) = omega (arith, p.upper (omega arith))

-- a bit of lines of n is in one line, at one column
same_line : {n q c r d : ℕ} → c < n → d < n → n * q + c ≡ n * r + d → q ≡ r
same_line {n} {q} {c} {r} {d} l m e = pick (dec_lt q r) (dec_lt r q)
  where
    pick : Dec (q < r) → Dec (r < q) → q ≡ r
    pick (yes h) k = absurd (omega (arith, stride n h))
    pick (no h) (yes k) = absurd (omega (arith, stride n k))
    pick (no h) (no k) = omega arith

-- which pair a line and a column are
pair_at : {n a b c d t e : ℕ} → a < b → b < n → c < d → d < n → Line n a t → Line n c t → Column n a b e
    → Column n c d e → (a ≡ c) × (b ≡ d)
pair_at {n} {a} {b} {c} {d} ab bn cd dn p q x y = pick (dec_lt (2 * a) n) (dec_lt (2 * c) n)
  where
    pick : Dec (2 * a < n) → Dec (2 * c < n) → (a ≡ c) × (b ≡ d)
    pick (yes h) (yes k) =
        (omega (arith, p.lower h, q.lower k), omega (arith, x.lower h, y.lower k))
    pick (yes h) (no k) =
        absurd (omega (arith, p.lower h, q.upper (omega arith), x.lower h, y.upper (omega arith)))
    pick (no h) (yes k) =
        absurd (omega (arith, p.upper (omega arith), q.lower k, x.upper (omega arith), y.lower k))
    pick (no h) (no k) = (
      omega (arith, p.upper (omega arith), q.upper (omega arith)),
      omega (arith, x.upper (omega arith), y.upper (omega arith)),
    )

-- ONE PAIR, ONE BIT
pub slot_one : {n from a b c d p : ℕ} → a < b → b < n → c < d → d < n → Slot n from a b p → Slot n from c d p
    → (a ≡ c) × (b ≡ d)
slot_one {n} {from} {a} {b} {c} {d} ab bn cd dn x y =
    let l = column_low bn x.column_is in
    let m = column_low dn y.column_is in
    let f : n * (x.line - from) + x.column ≡ n * (y.line - from) + y.column = sym x.is ∙ y.is in
    let q = same_line l m f in
    let t : x.line ≡ y.line = omega (arith, q, x.since, y.since) in
    let g : x.column ≡ y.column = omega (arith, f, ap (λ z. n * z) q) in
    pair_at ab bn cd dn x.line_is (rw t y.line_is) x.column_is (rw g y.column_is)

pub slot_only : {n from a b p q : ℕ} → Slot n from a b p → Slot n from a b q → p ≡ q
slot_only {n} {from} x y =
    let t = line_only x.line_is y.line_is in
    let g = column_only x.column_is y.column_is in
    omega (arith, x.is, y.is, ap (λ z. n * (z - from)) t, g)

column_some : (n a : ℕ) {b : ℕ} → b < n → (c : ℕ) × Column n a b c
column_some n a {b} l = pick (dec_lt (2 * a) n)
  where
    pick : Dec (2 * a < n) → (c : ℕ) × Column n a b c
    pick (yes h) = (b, record { lower = λ _. refl; upper = λ k. absurd (omega arith) })
    pick (no h) = (n - 1 - b, record { lower = λ k. absurd (omega arith); upper = λ _. omega arith })

pub slot_some : {n from end a b : ℕ} → b < n → InBlock n from end a → (p : ℕ) × Slot n from a b p
slot_some {n} {from} {end} {a} l i =
    let c = column_some n a l in (
      n * (i.line - from) + c.0,
      record { line = i.line; column = c.0; line_is = i.is; column_is = c.1; since = i.since; is = refl },
    )

-- what `slot` computes
module _ {n from t a b : ℕ} (S : SlotAsked n from t a b) {c : ℕ} (k : Column n a b c) where
  pub slot_low : n * (t - from) + c < 1048576
  slot_low = omega (arith, S.asked.room, column_low S.node k)

  pub slot_is : Slot n from a b (n * (t - from) + c)
  slot_is = record { line = t; column = c; line_is = S.asked.line; column_is = k; since = S.asked.since; is = refl }

-- what is asked of a first node of a block
pub block_line : {n from end t a : ℕ} → Block n from end → a < n → Line n a t → from ≤ t → t < end
    → LineAsked n from t a
block_line {n} {from} {end} {t} B b l h k =
    let s : t - from < end - from = omega arith in
    record { nodes = B.nodes; node = b; line = l; since = h; room = omega (arith, B.room, stride n s) }

-- a first node whose line is none of the block's
pub not_in_block : {n from end a t : ℕ} → Line n a t → (from ≤ t → t < end → ⊥) → ¬ InBlock n from end a
not_in_block l o i =
    let e = line_only l i.is in
    o (omega (arith, i.since)) (omega (arith, i.before))

-- a pair that is none of the block's, and one that is
pub admitted_none : {n from end a b t : ℕ} {bits : List ℕ} → Line n a t → ((from ≤ t) → (t < end) → ⊥)
    → Admitted n from end a b bits true bits
admitted_none l o = record { outside = λ _. (refl, refl); inside = λ i. absurd (not_in_block l o i) }

pub admitted_one : {n from end a b t p : ℕ} {old now : List ℕ} {r : Bool} → Line n a t → from ≤ t → t < end
    → Slot n from a b p → PutIn old p r now → Admitted n from end a b old r now
admitted_one {p = p} l h k s w =
    record {
      outside = λ o. absurd (o (record { line = _; is = l; since = h; before = k }));
      inside = λ _. (p, s, w);
    }

-- whether a first node is of the block, or of those before
pub block_or_done : {n from end a : ℕ} → LineDone n end a → a < n → (¬ InBlock n from end a) → LineDone n from a
block_or_done {n} {from} {end} {a} d b o t l = pick (dec_lt t from)
  where
    pick : Dec (t < from) → t < from
    pick (yes h) = h
    pick (no h) = absurd (o (record { line = t; is = l; since = omega arith; before = d t l }))

pub in_block : {n from end a : ℕ} → a < n → Dec (InBlock n from end a)
in_block {n} {from} {end} {a} b = pick (line_some b)
  where
    pick : (t : ℕ) × Line n a t → Dec (InBlock n from end a)
    pick v = side (dec_le from v.0) (dec_lt v.0 end)
      where
        side : Dec (from ≤ v.0) → Dec (v.0 < end) → Dec (InBlock n from end a)
        side (yes h) (yes k) = yes (record { line = v.0; is = v.1; since = h; before = k })
        side (no h) k = no (λ i. h (omega (arith, line_only v.1 i.is, i.since)))
        side (yes h) (no k) = no (λ i. k (omega (arith, line_only v.1 i.is, i.before)))
