-- The text of rows, as a function, is what is to be written of them: each piece reads as what it was made of, where the
-- rows' nodes are from 1 to n and every number of 32 bits is in the text's range.
use mathlib.Core.Path.{◌≡◌, refl}
use mathlib.Core.List.{List, [], ◌∷◌, ◌++◌, append_assoc, append-nil}
use Prim.Native.Nat.{ℕ, zero, suc, ◌+◌, ◌-◌, ◌*◌, ◌≤◌, ◌<◌}
use native.Mathlib.Omega.{arith}
use native.Mathlib.Decide.{dec_lt}
use Rattle.table.specs.Bytes.{u16_at}
use Rattle.numbers.specs.Bytes.{EachByte}
use Rattle.text.specs.Decimal.{decimal, decimal_is}
use Rattle.roads.specs.Number.{Field, ArcNumber, plain, minus}
use Rattle.roads.specs.Text.{Arc, Problem, ArcLine}
use Rattle.roads.specs.work.Whole.{ArcFits}
use Rattle.written.specs.Written.{opposite, arcs_written, ArcLines, done, arc, Written, length_arc, weight_arc}
use Rattle.written.specs.work.Rows.{row_arc}
use Rattle.written.specs.work.Texts.{number_text, arc_text, row_text, rows_text, head_text, text_of}
use Rattle.written.proofs.Texts.{number_up, number_down}

field_spelt : (x end : ℕ) (q : List ℕ) → Field x end (decimal x ++ end ∷ q) q
field_spelt x end q = record { digits = decimal x; spelt = refl; decimal = decimal_is x }

head_spelt : (n m : ℕ) (q : List ℕ) → n ≤ 65535 → Problem (head_text n m ++ q) n m q
unfolding head_text
head_spelt n m q h = record {
  first = decimal n ++ 32 ∷ (decimal m ++ 10 ∷ q);
  second = decimal m ++ 10 ∷ q;
  spelt = simp append_assoc;
  nodes = field_spelt n 32 (decimal m ++ 10 ∷ q);
  count = field_spelt m 10 q;
  fits = h;
}

opposite_fits : {n : ℕ} {e : Arc} → ArcFits n e → ArcFits n (opposite e)
opposite_fits g = record { from = g.to; to = g.from; bits = g.bits }

module _ {top low : ℕ} (all : top + low + 1 ≡ 4294967296) where
  number_spelt : (b : ℕ) (q : List ℕ) → b < 4294967296 → ArcNumber top low b (number_text top b ++ 10 ∷ q) q
  number_spelt b q h = pick (dec_lt top b)
    where
      pick : Dec (top < b) → ArcNumber top low b (number_text top b ++ 10 ∷ q) q
      pick (no n) =
          let l : b ≤ top = omega arith in
          rw (number_up top b l) (plain (field_spelt b 10 q) l)
      pick (yes l) =
          rw (number_down top b l)
          (minus {x = 4294967296 - b} {b = b} {q = decimal (4294967296 - b) ++ 10 ∷ q} refl
          (field_spelt (4294967296 - b) 10 q) (omega arith) (omega arith) (omega arith))

  module _ {n : ℕ} where
    arc_spelt : (e : Arc) (q : List ℕ) → ArcFits n e → ArcLine top low n (arc_text top e ++ q) e q
    unfolding arc_text
    arc_spelt e q g = record {
      first = decimal e.from ++ 32 ∷ (decimal e.to ++ 32 ∷ (number_text top e.number ++ 10 ∷ q));
      second = decimal e.to ++ 32 ∷ (number_text top e.number ++ 10 ∷ q);
      third = number_text top e.number ++ 10 ∷ q;
      spelt = simp append_assoc;
      from = field_spelt e.from 32 _;
      to = field_spelt e.to 32 _;
      number = number_spelt e.number q g.bits;
      from_node = g.from;
      to_node = g.to;
    }

    row_spelt : (e : Arc) {q : List ℕ} {l : List Arc} → ArcFits n e → ArcLines top low n q l
        → ArcLines top low n (row_text top e ++ q) (e ∷ opposite e ∷ l)
    row_spelt e {q} g x = rw (append_assoc (arc_text top e) (arc_text top (opposite e)) q)
        (arc (arc_spelt e (arc_text top (opposite e) ++ q) g) (arc (arc_spelt (opposite e) q (opposite_fits g)) x))

    rows_spelt : (row : ℕ → Arc) (m : ℕ) {q : List ℕ} {l : List Arc} → ((r : ℕ) → r < m → ArcFits n (row r))
        → ArcLines top low n q l → ArcLines top low n (rows_text top row m ++ q) (arcs_written row m ++ l)
    unfolding rows_text arcs_written
    rows_spelt row zero g x = x
    rows_spelt row (suc m) {q} {l} g x =
        let y = row_spelt (row m) (g m (omega arith)) x in
        let e = append_assoc (rows_text top row m) (row_text top (row m)) q in
        let f = append_assoc (arcs_written row m) (row m ∷ opposite (row m) ∷ []) l in
        rw (e, f) (rows_spelt row m (λ r h. g r (omega arith)) y)

    pub written_text : (row : ℕ → Arc) (m : ℕ) → n ≤ 65535 → ((r : ℕ) → r < m → ArcFits n (row r))
        → Written top low n row m (text_of top n row m)
    unfolding text_of
    written_text row m h g = record {
      lines = rows_text top row m;
      problem = head_spelt n (2 * m) (rows_text top row m) h;
      arcs = rw (append-nil (rows_text top row m), append-nil (arcs_written row m)) at (rows_spelt row m g done);
    }

-- a table's two texts
module _ (s : List ℕ) (n : ℕ) (few : n ≤ 65535) (all : EachByte s)
    (first : (r : ℕ) → r < n - 1 → u16_at s (12 + 12 * r) < n)
    (second : (r : ℕ) → r < n - 1 → u16_at s (14 + 12 * r) < n) where
  row_fits : (place r : ℕ) → r < n - 1 → ArcFits n (row_arc place s r)
  row_fits place r h =
      let i = 12 + place + 12 * r in
      record {
        from = record { low = omega arith; high = omega (arith, first r h) };
        to = record { low = omega arith; high = omega (arith, second r h) };
        bits = omega (arith, all i, all (i + 1), all (i + 2), all (i + 3));
      }

  pub lengths_written : Written 4294967295 0 n (length_arc s) (n - 1) (text_of 4294967295 n (row_arc 4 s) (n - 1))
  lengths_written = written_text (omega arith) (row_arc 4 s) (n - 1) few (row_fits 4)

  pub weights_written :
      Written 2147483647 2147483648 n (weight_arc s) (n - 1) (text_of 2147483647 n (row_arc 8 s) (n - 1))
  weights_written = written_text (omega arith) (row_arc 8 s) (n - 1) few (row_fits 8)
