-- The changed table written out: the table, and over it the entries one by one. The invariant says of each row where
-- its bytes come from if only the entries passed are looked at; when all were, that is the row shown.
use Prim.Native.Nat.{ℕ, ◌+◌, ◌*◌, ◌≤◌, ◌<◌}
use mathlib.Core.Path.{◌≡◌, sym, ◌∙◌}
use mathlib.Core.Bool.{true, false, true≢false, false≢true}
use mathlib.Core.List.{List}
use native.Mathlib.Omega.{arith}
use native.Mathlib.Decide.{dec_lt}
use lib.ListN.{length, get_or, take, drop, length-take}
use lib.Seq.{get_or-take}
use Rattle.table.specs.Row.{Stands}
use Rattle.text.specs.work.Put.{Put}
use Rattle.changeset.specs.Entries.{row_for}
use Rattle.changeset.specs.Shown.{Source, in_set, in_table, SourceOf, source_bytes}
use Rattle.changeset.specs.Shown as shown
use Rattle.changeset.specs.work.Search.{EntryCount}
use Rattle.changeset.specs.work.Buffer.{BytesPut, BufferLent, EntriesPut}
use Rattle.changeset.proofs.Order.{Rose, rose_none, rose_falls, rose_far, rose_more, rose_all}
use Rattle.changeset.proofs.Parts.{parts_same, front_at}

-- the source of row r if only the i first entries are looked at
pub data SourceUpTo (c : List ℕ) (i r : ℕ) : Source → Type 0 where
  changed : (j : ℕ) → j < i → row_for c j ≡ r → SourceUpTo c i r (in_set j)
  kept : ((j : ℕ) → j < i → row_for c j ≡ r → ⊥) → SourceUpTo c i r in_table

-- q is that row's bytes
pub record RowUpTo (s c : List ℕ) (i r : ℕ) (q : List ℕ) : Type 0 where
  pub source : Source
  pub from : SourceUpTo c i r source
  pub bytes : q ≡ source_bytes s c r source

-- the i first of m entries rise, and are put over the table
pub record Overlaid (s c : List ℕ) (n m low i : ℕ) (out : List ℕ) : Type 0 where
  pub rose : Rose c n m low i
  pub lent : BufferLent s n out
  pub header : (j : ℕ) → j < 12 → get_or out j 0 ≡ get_or s j 0
  pub rows : (r : ℕ) → r + 1 < n → RowUpTo s c i r (take 12 (drop (12 + 12 * r) out))

pub overlaid_none : {s c : List ℕ} {n m : ℕ} {old out : List ℕ} {next : ℕ} → BufferLent s n old → Put old 0 s out next
    → EntryCount c m → Overlaid s c n m 0 0 out
overlaid_none {s} {c} {n} {m} {old} {out} h p k =
    let room : length s ≤ length out = omega (arith, h.room, p.same) in
    record {
      rose = rose_none k;
      lent = record { some = h.some; few = h.few; size = h.size; room = room };
      header = λ j l. front_at p j (omega (arith, h.size, h.some));
      rows = λ r l. record {
        source = in_table;
        from = kept (λ j a. absurd (omega arith));
        bytes =
            parts_same (12 + 12 * r) out (12 + 12 * r) s (omega (arith, room, h.size)) (omega (arith, h.size))
            (λ j z. front_at p (12 + 12 * r + j) (omega (arith, h.size)));
      };
    }

-- one entry more, which is for row q
module _ {s c : List ℕ} {n m low i : ℕ} {out : List ℕ} (h : Overlaid s c n m low i out) (l : i < m) (q : ℕ)
    (e : q ≡ row_for c i) (lo : low ≤ q) (hi : q + 1 < n) where
  up_to_more : (r : ℕ) → (r ≡ q → ⊥) → {w : Source} → SourceUpTo c i r w → SourceUpTo c (i + 1) r w
  up_to_more r n (changed j a is) = changed j (omega arith) is
  up_to_more r n (kept f) = kept (λ j a is. pick j a is (dec_lt j i))
    where
      pick : (j : ℕ) → j < i + 1 → row_for c j ≡ r → Dec (j < i) → ⊥
      pick j a is (yes d) = f j d is
      pick j a is (no d) = let z : j ≡ i = omega arith in n (sym (rw z at is) ∙ sym e)

  pub overlaid_more : {new : List ℕ} → BytesPut 12 c (8 + 14 * i) out (12 + 12 * q) new
      → Overlaid s c n m (q + 1) (i + 1) new
  overlaid_more {new} u = record {
    rose = rose_more h.rose l q e lo hi;
    lent = record { some = h.lent.some; few = h.lent.few; size = h.lent.size; room = room };
    header = λ j a. u.before j (omega arith) ∙ h.header j a;
    rows = λ r a. row r a (dec_lt r q) (dec_lt q r);
  }
    where
      room : length s ≤ length new
      room = omega (arith, u.long, h.lent.room)

      other : (r : ℕ) → r + 1 < n → (r ≡ q → ⊥)
          → ((j : ℕ) → j < 12 → get_or new (12 + 12 * r + j) 0 ≡ get_or out (12 + 12 * r + j) 0)
          → RowUpTo s c (i + 1) r (take 12 (drop (12 + 12 * r) new))
      other r a n f =
          let o = h.rows r a in
          record {
            source = o.source;
            from = up_to_more r n o.from;
            bytes =
                parts_same (12 + 12 * r) new (12 + 12 * r) out (omega (arith, room, h.lent.size))
                (omega (arith, h.lent.room, h.lent.size)) f
                ∙ o.bytes;
          }

      row : (r : ℕ) → r + 1 < n → Dec (r < q) → Dec (q < r) → RowUpTo s c (i + 1) r (take 12 (drop (12 + 12 * r) new))
      row r a (yes d) b = other r a (λ z. omega arith) (λ j z. u.before (12 + 12 * r + j) (omega arith))
      row r a (no d) (yes b) = other r a (λ z. omega arith) (λ j z. u.after (12 + 12 * r + j) (omega arith))
      row r a (no d) (no b) =
          let z : r ≡ q = omega arith in
          record {
            source = in_set i;
            from = changed i (omega arith) (sym e ∙ sym z);
            bytes =
                parts_same (12 + 12 * r) new (8 + 14 * i) c (omega (arith, room, h.lent.size))
                (omega (arith, h.rose.counted.there i l)) (λ j k. rw z (u.there j k));
          }

-- all entries: each row is the row shown
shown_at_last : {s c : List ℕ} {n m low i r : ℕ} → Rose c n m low i → m ≤ i → Stands s r → {w : Source}
    → SourceUpTo c i r w → SourceOf s c r w
shown_at_last h l g (changed j a is) =
    shown.changed j g
    (record {
      has = h.counted.there j (omega (arith, h.within));
      is = is;
      before = λ k b z. omega (arith, h.rise k j b a);
    })
shown_at_last h l g (kept f) = shown.kept g (λ j a is. f j (omega (arith, h.counted.all j a)) is)

pub overlaid_all : {s c : List ℕ} {n m low i : ℕ} {out : List ℕ} → Overlaid s c n m low i out → m ≤ i
    → EntriesPut s c n out true
overlaid_all {s} {c} {n} {m} {low} {i} {out} h l = record {
  rising = record { holds = λ _. rose_all h.rose l; fails = λ e. absurd (true≢false e) };
  changed = λ _. record {
    size = whole;
    header =
        parts_same 0 (take (length s) out) 0 s (omega (arith, whole, size, some)) (omega (arith, size, some))
        (λ j z. get_or-take (length s) out (0 + j) 0 (omega (arith, size, some)) ∙ h.header (0 + j) (omega arith));
    rows = λ r a.
        let o = h.rows r (omega (arith, size)) in
        record {
          source = o.source;
          from = shown_at_last h.rose l a o.from;
          bytes =
              parts_same (12 + 12 * r) (take (length s) out) (12 + 12 * r) out (omega (arith, whole))
              (omega (arith, h.lent.room)) (λ j z. get_or-take (length s) out (12 + 12 * r + j) 0 (omega arith))
              ∙ o.bytes;
        };
  };
}
  where
    size : length s ≡ 12 * n
    size = h.lent.size

    some : 1 ≤ n
    some = h.lent.some

    whole : length (take (length s) out) ≡ length s
    whole = simp length-take (omega (arith, h.lent.room))

-- or they do not rise
module _ {s c : List ℕ} {n m low i : ℕ} {out : List ℕ} (h : Overlaid s c n m low i out) (l : i < m) (q : ℕ)
    (e : q ≡ row_for c i) where
  pub overlaid_falls : q < low → EntriesPut s c n out false
  overlaid_falls a =
      record {
        rising = record { holds = λ z. absurd (false≢true z); fails = λ _. rose_falls h.rose l q e a };
        changed = λ z. absurd (false≢true z);
      }

  pub overlaid_far : n ≤ q + 1 → EntriesPut s c n out false
  overlaid_far a =
      record {
        rising = record { holds = λ z. absurd (false≢true z); fails = λ _. rose_far h.rose l q e a };
        changed = λ z. absurd (false≢true z);
      }
