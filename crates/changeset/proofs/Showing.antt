-- The row shown: from the table's part and the entry found to where it lies; and that a row has one source, so
-- that there is one row shown and one part.
use Prim.Native.Nat.{ℕ, ◌+◌, ◌-◌, ◌*◌, ◌≤◌, ◌<◌}
use mathlib.Core.Path.{◌≡◌, refl, sym, ap, ◌∙◌}
use mathlib.Core.List.{List}
use native.Mathlib.Omega.{arith}
use native.Mathlib.Decide.{dec_le, dec_lt}
use lib.ListN.{length, take, drop, length-take, length-drop}
use Rattle.table.specs.Refuse.{Only}
use Rattle.table.specs.Row.{Stands, PartOf}
use Rattle.changeset.specs.Shown.{
  in_set,
  in_table,
  nowhere,
  FirstFor,
  Unchanged,
  SourceOf,
  changed,
  kept,
  nothing,
  source_bytes,
  source_place,
  RowShown,
  PartShown,
}

row_length : (s : List ℕ) (r : ℕ) → Stands s r → length (take 12 (drop (12 + 12 * r) s)) ≡ 12
row_length s r h = simp (length-take, length-drop) (omega arith)

-- the table's part is empty exactly if the row does not stand there
module _ {s : List ℕ} {home : ℕ × ℕ} {r : ℕ} {q : List ℕ} {place : ℕ × ℕ} (p : PartOf s home r q place) where
  part_none : length q ≡ 0 → Stands s r → ⊥
  part_none e h = omega (arith, row_length s r h, ap length (p.bytes h))

  part_there : (length q ≡ 0 → ⊥) → Stands s r
  part_there n = pick (dec_le (24 + 12 * r) (length s))
    where
      pick : Dec (24 + 12 * r ≤ length s) → Stands s r
      pick (yes h) = h
      pick (no h) = absurd (n (ap length (p.none h)))

  module _ (c : List ℕ) (there : ℕ × ℕ) where
    pub shown_none : length q ≡ 0 → PartShown s home c there r q place
    shown_none e =
        let n = part_none e in
        record { row = record { source = nowhere; from = nothing n; bytes = p.none n }; own = p.none_at n }

    module _ (n : length q ≡ 0 → ⊥) where
      pub shown_own : Unchanged c r → PartShown s home c there r q place
      shown_own u =
          let h = part_there n in
          record { row = record { source = in_table; from = kept h u; bytes = p.bytes h }; own = p.own h }

      pub shown_entry : (k : ℕ) → FirstFor c r k → PartShown s home c there r
          (take ((8 + 14 * k) + 12 - (8 + 14 * k)) (drop (8 + 14 * k) c)) (there.0, (8 + 14 * k) + there.1)
      shown_entry k f =
          let e : (8 + 14 * k) + 12 - (8 + 14 * k) ≡ 12 = omega arith in
          record {
            row = record { source = in_set k; from = changed k (part_there n) f; bytes = rw e refl };
            own = refl;
          }

-- ONE SOURCE
pub source_only : (s c : List ℕ) (r : ℕ) → Only (SourceOf s c r)
source_only s c r x y (changed i h f) (changed j k g) = pick (dec_lt i j) (dec_lt j i)
  where
    pick : Dec (i < j) → Dec (j < i) → in_set i ≡ in_set j
    pick (yes l) d = absurd (g.before i l f.is)
    pick (no l) (yes m) = absurd (f.before j m g.is)
    pick (no l) (no m) = ap in_set (omega arith)
source_only s c r x y (changed i h f) (kept k n) = absurd (n i f.has f.is)
source_only s c r x y (changed i h f) (nothing n) = absurd (n h)
source_only s c r x y (kept h n) (changed j k g) = absurd (n j g.has g.is)
source_only s c r x y (kept h n) (kept k m) = refl
source_only s c r x y (kept h n) (nothing m) = absurd (m h)
source_only s c r x y (nothing n) (changed j k g) = absurd (n k)
source_only s c r x y (nothing n) (kept k m) = absurd (n k)
source_only s c r x y (nothing n) (nothing m) = refl

-- so one row, and one part
pub row_shown_only : (s c : List ℕ) (r : ℕ) → Only (RowShown s c r)
row_shown_only s c r x y p q =
    p.bytes ∙ ap (source_bytes s c r) (source_only s c r _ _ p.from q.from) ∙ sym q.bytes

-- SHOWN HAS ONE OUTCOME
pub shown_only : (s : List ℕ) (home : ℕ × ℕ) (c : List ℕ) (there : ℕ × ℕ) (r : ℕ) (q q' : List ℕ) (place place' : ℕ × ℕ)
    → PartShown s home c there r q place → PartShown s home c there r q' place' → (q ≡ q') × (place ≡ place')
shown_only s home c there r q q' place place' p p' = (
  row_shown_only s c r q q' p.row p'.row,
  p.own ∙ ap (source_place home there r) (source_only s c r _ _ p.row.from p'.row.from) ∙ sym p'.own,
)
