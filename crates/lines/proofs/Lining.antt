-- Lines one after the other: those of two lists joined are those of the one and then those of the other; and the loop
-- that puts the line of each row after the lines of the rows before it.
use Prim.Native.Nat.{ℕ, ◌+◌, ◌-◌, ◌*◌, ◌≤◌, ◌<◌}
use mathlib.Core.Path.{◌≡◌, refl, sym, ap, ◌∙◌}
use mathlib.Core.List.{List, [], ◌∷◌, ◌++◌, append_assoc, append-nil}
use native.Mathlib.Omega.{arith}
use lib.ListN.{length}
use Rattle.pages.specs.Listing.{Entry}
use Rattle.pages.specs.Bytes.{entry_at, entries}
use Rattle.pages.proofs.Back.{entries_none, entries_one, entries_join}
use Rattle.text.specs.work.Put.{Put}
use Rattle.text.proofs.Puts.{put_none, put_then, put_as}
use Rattle.lines.specs.Lines.{pair_text, pairs_text}

pub pairs_append : (l m : List Entry) → pairs_text (l ++ m) ≡ pairs_text l ++ pairs_text m
unfolding pairs_text
pairs_append [] m = refl
pairs_append (x ∷ l) m = rw (pairs_append l m) (sym (append_assoc (pair_text x) (pairs_text l) (pairs_text m)))

pairs_none : pairs_text [] ≡ []
unfolding pairs_text
pairs_none = refl

pairs_one : (e : Entry) → pairs_text (e ∷ []) ≡ pair_text e
unfolding pairs_text
pairs_one e = append-nil (pair_text e)

pub lines_none : (s : List ℕ) (i : ℕ) → pairs_text (entries s i 0) ≡ []
lines_none s i = ap pairs_text (entries_none s i) ∙ pairs_none

-- the lines of the rows from i on, and then of those after them
pub lines_join : (s : List ℕ) (i j k : ℕ)
    → pairs_text (entries s i (j + k)) ≡ pairs_text (entries s i j) ++ pairs_text (entries s (i + j) k)
lines_join s i j k = ap pairs_text (entries_join s i j k) ∙ pairs_append (entries s i j) (entries s (i + j) k)

-- one row more
lines_next : (s : List ℕ) (i k : ℕ)
    → pairs_text (entries s i (k + 1)) ≡ pairs_text (entries s i k) ++ pair_text (entry_at s (16 * (i + k)))
lines_next s i k =
    lines_join s i k 1
    ∙ ap (λ (l : List ℕ). pairs_text (entries s i k) ++ l)
    (ap pairs_text (entries_one s (i + k)) ∙ pairs_one (entry_at s (16 * (i + k))))

-- the lines of the rows below i are put
pub record Lining (old rows : List ℕ) (from upto : ℕ) (out : List ℕ) (at i : ℕ) : Type 0 where
  pub put : Put old 0 (pairs_text (entries rows from (i - from))) out at
  pub few : at ≤ 96 * (i - from)
  pub start : from ≤ i
  pub end : i ≤ upto
  pub there : 16 * upto ≤ length rows
  pub room : 96 * (upto - from) ≤ length old

pub lining_none : {old rows : List ℕ} {from upto : ℕ} → from ≤ upto → 16 * upto ≤ length rows
    → 96 * (upto - from) ≤ length old → Lining old rows from upto old 0 from
lining_none {old} {rows} {from} {upto} h t r =
    let e : from - from ≡ 0 = omega arith in
    record {
      put = rw e (put_as (sym (lines_none rows from)) (put_none old 0 (omega arith)));
      few = omega arith;
      start = omega arith;
      end = h;
      there = t;
      room = r;
    }

pub lining_more : {old rows : List ℕ} {from upto : ℕ} {out new : List ℕ} {at i next : ℕ}
    → Lining old rows from upto out at i → i < upto → Put out at (pair_text (entry_at rows (16 * i))) new next
    → next ≤ at + 96 → Lining old rows from upto new next (i + 1)
lining_more {old} {rows} {from} {upto} {i = i} l h p b =
    let e : i + 1 - from ≡ i - from + 1 = omega (arith, l.start) in
    let f : from + (i - from) ≡ i = omega (arith, l.start) in
    record {
      put = one_more l.put p e f;
      few = omega (arith, l.few, l.start);
      start = omega (arith, l.start);
      end = omega arith;
      there = l.there;
      room = l.room;
    }
  where
    one_more : {out new : List ℕ} {at next : ℕ} → Put old 0 (pairs_text (entries rows from (i - from))) out at
        → Put out at (pair_text (entry_at rows (16 * i))) new next → i + 1 - from ≡ i - from + 1
        → from + (i - from) ≡ i → Put old 0 (pairs_text (entries rows from (i + 1 - from))) new next
    one_more a p e f = rw (e, lines_next rows from (i - from), f) (put_then a p)

pub lining_done : {old rows : List ℕ} {from upto : ℕ} {out : List ℕ} {at i : ℕ} → Lining old rows from upto out at i
    → upto ≤ i → Put old 0 (pairs_text (entries rows from (upto - from))) out at × (at ≤ 96 * (upto - from))
lining_done {upto = upto} {i = i} l h =
    let e : i ≡ upto = omega (arith, l.end) in
    (rw e at l.put, omega (arith, l.few))
