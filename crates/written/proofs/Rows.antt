-- Rows as they are read, and the two loops over them: the first r rows' lines are summed, and put.
use mathlib.Core.Path.{◌≡◌, refl, sym, ap, ◌∙◌}
use mathlib.Core.List.{List}
use Prim.Native.Nat.{ℕ, ◌+◌, ◌*◌, ◌≤◌, ◌<◌}
use native.Mathlib.Omega.{arith}
use lib.ListN.{length}
use Rattle.table.specs.Bytes.{u16_at, u32_at}
use Rattle.text.specs.Decimal.{decimal}
use Rattle.text.specs.work.Put.{Put}
use Rattle.text.proofs.Puts.{put_none, put_then, put_as}
use Rattle.roads.specs.Text.{Arc}
use Rattle.roads.specs.work.Line.{arc_of}
use Rattle.written.specs.work.Rows.{row_arc, RowsThere}
use Rattle.written.specs.work.Texts.{number_text, arc_text, row_text, rows_text}
use Rattle.written.proofs.Texts.{row_size, row_length, rows_none, rows_next, rows_length, rows_room}

-- the second node and the number stand where the row says
second_place : (s : List ℕ) (r : ℕ) → u16_at s (12 + 12 * r + 2) ≡ u16_at s (14 + 12 * r)
second_place s r = let e : 12 + 12 * r + 2 ≡ 14 + 12 * r = omega arith in ap (u16_at s) e

number_place : (s : List ℕ) (r place : ℕ) → u32_at s (12 + 12 * r + place) ≡ u32_at s (12 + place + 12 * r)
number_place s r place = let e : 12 + 12 * r + place ≡ 12 + place + 12 * r = omega arith in ap (u32_at s) e

-- a row as it was read
module _ (s : List ℕ) (r place : ℕ) {x y b : ℕ} (e : x ≡ u16_at s (12 + 12 * r)) (f : y ≡ u16_at s (12 + 12 * r + 2))
    (g : b ≡ u32_at s (12 + 12 * r + place)) where
  row_read : (from to : ℕ) → from ≡ x + 1 → to ≡ y + 1 → arc_of from to b ≡ row_arc place s r
  row_read from to h k =
      let first : from ≡ u16_at s (12 + 12 * r) + 1 = omega (arith, e, h) in
      let second : to ≡ u16_at s (14 + 12 * r) + 1 = omega (arith, f, k, second_place s r) in
      let number : b ≡ u32_at s (12 + place + 12 * r) = g ∙ number_place s r place in
      λ i. record { from = first i; to = second i; number = number i }

  pub row_sized : (top : ℕ) {u v w k : ℕ} → u ≡ length (decimal (x + 1)) → v ≡ length (decimal (y + 1))
      → w ≡ length (number_text top b) → k ≡ 2 * (5 + u + v + w) → k ≡ length (row_text top (row_arc place s r))
  row_sized top h k l m =
      let z = ap (λ (a : Arc). length (row_text top a)) (row_read (x + 1) (y + 1) refl refl) in
      omega (arith, row_size top (arc_of (x + 1) (y + 1) b), z)

  module _ {from to : ℕ} (h : from ≡ x + 1) (k : to ≡ y + 1) where
    pub row_parts : (top : ℕ) → length (row_text top (row_arc place s r))
        ≡ length (arc_text top (arc_of from to b)) + length (arc_text top (arc_of to from b))
    row_parts top =
        sym (ap (λ (a : Arc). length (row_text top a)) (row_read from to h k)) ∙ row_length top (arc_of from to b)

    pub row_put : (top : ℕ) {o n q : List ℕ} {at p i : ℕ} → Put o at (arc_text top (arc_of from to b)) n p
        → Put n p (arc_text top (arc_of to from b)) q i → Put o at (row_text top (row_arc place s r)) q i
    row_put top c d = put_as (ap (λ (a : Arc). row_text top a) (row_read from to h k)) (put_then c d)

-- the sizes of the first r rows' lines
pub record Summing (s : List ℕ) (m top place k r : ℕ) : Type 0 where
  pub sum : k ≡ length (rows_text top (row_arc place s) r)
  pub small : k ≤ 132 * r
  pub most : r ≤ m
  pub there : RowsThere s m place

pub summing_none : {s : List ℕ} {m place : ℕ} (top : ℕ) → RowsThere s m place → Summing s m top place 0 0
summing_none {s} {place = place} top t = record {
  sum = ap length (sym (rows_none top (row_arc place s)));
  small = omega arith;
  most = omega arith;
  there = t;
}

pub summing_more : {s : List ℕ} {m top place k r : ℕ} → Summing s m top place k r → r < m
    → (j : ℕ) → j ≡ length (row_text top (row_arc place s r)) → j ≤ 132 → Summing s m top place (k + j) (r + 1)
summing_more {s} {top = top} {place = place} {r = r} c h j e l = record {
  sum = omega (arith, c.sum, rows_length top (row_arc place s) r);
  small = omega (arith, c.small);
  most = omega arith;
  there = c.there;
}

-- the first r rows' lines stand in the lent bytes
pub record Storing (old : List ℕ) (at : ℕ) (s : List ℕ) (m top place : ℕ) (out : List ℕ) (p r : ℕ) : Type 0 where
  pub put : Put old at (rows_text top (row_arc place s) r) out p
  pub room : at + length (rows_text top (row_arc place s) m) ≤ length old
  pub most : r ≤ m
  pub there : RowsThere s m place

pub storing_none : {old : List ℕ} {at : ℕ} {s : List ℕ} {m place : ℕ} (top : ℕ)
    → at + length (rows_text top (row_arc place s) m) ≤ length old → RowsThere s m place
    → Storing old at s m top place old at 0
storing_none {old} {at} {s} {place = place} top h t = record {
  put = put_as (sym (rows_none top (row_arc place s))) (put_none old at (omega arith));
  room = h;
  most = omega arith;
  there = t;
}

module _ {old : List ℕ} {at : ℕ} {s : List ℕ} {m top place : ℕ} {out : List ℕ} {p r : ℕ}
    (c : Storing old at s m top place out p r) (h : r < m) where
  pub storing_room : p + length (row_text top (row_arc place s r)) ≤ length out
  storing_room = omega (arith, c.put.after, c.put.same, c.room, rows_room top (row_arc place s) r m h)

  pub storing_more : {new : List ℕ} {q : ℕ} → Put out p (row_text top (row_arc place s r)) new q
      → Storing old at s m top place new q (r + 1)
  storing_more d = record {
    put = put_as (sym (rows_next top (row_arc place s) r)) (put_then c.put d);
    room = c.room;
    most = omega arith;
    there = c.there;
  }
