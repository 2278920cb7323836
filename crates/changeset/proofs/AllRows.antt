-- A set with as many entries as the table has rows: its row numbers rise exactly if entry i is for row i, since n − 1
-- rising numbers below n − 1 are all of them. So each row is put at the place of its entry's number, and the table's
-- header is all that is left of it.
use Prim.Native.Nat.{ℕ, zero, suc, ◌+◌, ◌-◌, ◌*◌, ◌≤◌, ◌<◌}
use mathlib.Core.Path.{◌≡◌, refl, sym, ◌∙◌}
use mathlib.Core.Bool.{Bool, true, false}
use mathlib.Core.List.{List}
use native.Mathlib.Omega.{arith}
use native.Mathlib.Decide.{dec_lt}
use lib.ListN.{length, get_or, take, drop, length-take}
use lib.Seq.{get_or-take}
use Rattle.text.specs.work.Put.{Put}
use Rattle.changeset.specs.Entries.{row_for, RowsRise}
use Rattle.table.specs.Row.{Stands}
use Rattle.changeset.specs.Shown.{in_set, changed, RowShown}
use Rattle.changeset.specs.work.Buffer.{BytesPut, BufferLent, RowsEach, Apart, EntriesPut}
use Rattle.changeset.proofs.Parts.{parts_same, front_at}

-- entry j is for row j, of all j below i, exactly if `off` is 0
pub record EachOwn (c : List ℕ) (i off : ℕ) : Type 0 where
  pub own : off ≡ 0 → (j : ℕ) → j < i → row_for c j ≡ j
  pub none : ((j : ℕ) → j < i → row_for c j ≡ j) → off ≡ 0

pub own_none : (c : List ℕ) → EachOwn c 0 0
own_none c = record { own = λ _ j l. absurd (omega arith); none = λ _. refl }

pub own_more : {c : List ℕ} {i x off now : ℕ} → EachOwn c i off → x ≡ row_for c i → Apart off x i now
    → EachOwn c (i + 1) now
own_more {c} {i} {x} {off} {now} h e p = record {
  own = λ z j l. pick z j l (dec_lt j i);
  none = λ all. p.none (h.none (λ j l. all j (omega arith))) (e ∙ all i (omega arith));
}
  where
    pick : now ≡ 0 → (j : ℕ) → j < i + 1 → Dec (j < i) → row_for c j ≡ j
    pick z j l (yes d) = h.own (p.same z).0 j d
    pick z j l (no d) = let k : j ≡ i = omega arith in rw k (sym e ∙ (p.same z).1)

-- they rise exactly if each is
module _ {c : List ℕ} {n : ℕ} (each : RowsEach c n) where
  own_rise : ((j : ℕ) → j < n - 1 → row_for c j ≡ j) → RowsRise n c
  own_rise own =
      record {
        rise = λ i j l h.
            let m = each.counted.all j h in
            omega (arith, own i (omega (arith, m)), own j m, l);
        below = λ i h. let m = each.counted.all i h in omega (arith, own i m, m, each.some);
      }

  module _ (g : RowsRise n c) where
    rise_least : (j : ℕ) → j < n - 1 → j ≤ row_for c j
    rise_least zero l = omega arith
    rise_least (suc j) l =
        omega (
          arith,
          rise_least j (omega arith),
          g.rise j (suc j) (omega arith) (each.counted.there (suc j) l),
        )

    rise_most : (d j : ℕ) → j + d + 1 ≡ n - 1 → row_for c j ≤ j
    rise_most zero j e = omega (arith, g.below j (each.counted.there j (omega arith)))
    rise_most (suc d) j e =
        omega (
          arith,
          rise_most d (suc j) (omega arith),
          g.rise j (suc j) (omega arith) (each.counted.there (suc j) (omega arith)),
        )

    rise_own : (j : ℕ) → j < n - 1 → row_for c j ≡ j
    rise_own j l = omega (arith, rise_least j l, rise_most (n - 1 - j - 1) j (omega arith))

-- the header, and the rows of the i first entries, stand in the buffer
pub record AllPut (s c : List ℕ) (n i : ℕ) (out : List ℕ) : Type 0 where
  pub lent : BufferLent s n out
  pub each : RowsEach c n
  pub within : i ≤ n - 1
  pub header : (j : ℕ) → j < 12 → get_or out j 0 ≡ get_or s j 0
  pub rows : (r j : ℕ) → r < i → j < 12 → get_or out (12 + 12 * r + j) 0 ≡ get_or c (8 + 14 * r + j) 0

pub all_none : {s c : List ℕ} {n : ℕ} {old out : List ℕ} {next : ℕ} → BufferLent s n old → RowsEach c n
    → Put old 0 (take 12 s) out next → AllPut s c n 0 out
all_none {s} {c} {n} {old} {out} h each p =
    record {
      lent = record { some = h.some; few = h.few; size = h.size; room = omega (arith, h.room, p.same) };
      each = each;
      within = omega arith;
      header = λ j l.
          front_at p j (simp length-take (omega (arith, l, h.size, h.some))) ∙ get_or-take 12 s j 0 l;
      rows = λ r j l. absurd (omega arith);
    }

-- one entry more: its 12 bytes, and perhaps some behind them
pub all_more : {s c : List ℕ} {n i : ℕ} {out new : List ℕ} (k : ℕ) → 12 ≤ k → AllPut s c n i out → i < n - 1
    → BytesPut k c (8 + 14 * i) out (12 + 12 * i) new → AllPut s c n (i + 1) new
all_more {s} {c} {n} {i} {out} {new} k wide h l u = record {
  lent = record {
    some = h.lent.some;
    few = h.lent.few;
    size = h.lent.size;
    room = omega (arith, u.long, h.lent.room);
  };
  each = h.each;
  within = omega arith;
  header = λ j a. u.before j (omega arith) ∙ h.header j a;
  rows = λ r j a b. row r j a b (dec_lt r i);
}
  where
    row : (r j : ℕ) → r < i + 1 → j < 12 → Dec (r < i) → get_or new (12 + 12 * r + j) 0 ≡ get_or c (8 + 14 * r + j) 0
    row r j a b (yes d) = u.before (12 + 12 * r + j) (omega arith) ∙ h.rows r j d b
    row r j a b (no d) =
        let z : r ≡ i = omega arith in rw z (u.there j (omega arith))

-- all entries
pub all_done : {s c : List ℕ} {n i off : ℕ} {out : List ℕ} → AllPut s c n i out → n - 1 ≤ i → EachOwn c i off
    → (q : Bool) → (q ≡ true → off ≡ 0) → (q ≡ false → off ≡ 0 → ⊥) → EntriesPut s c n out q
all_done {s} {c} {n} {i} {off} {out} h l o q t f = record {
  rising = record {
    holds = λ e. own_rise h.each (λ j a. o.own (t e) j (omega (arith, a, l)));
    fails = λ e g. f e (o.none (λ j a. rise_own h.each g j (omega (arith, a, h.within))));
  };
  changed = λ e. record {
    size = whole;
    header =
        parts_same 0 (take (length s) out) 0 s (omega (arith, whole, size, some)) (omega (arith, size, some))
        (λ j z. get_or-take (length s) out (0 + j) 0 (omega (arith, size, some)) ∙ h.header (0 + j) (omega arith));
    rows = λ r a. row (t e) r a (omega (arith, a, size));
  };
}
  where
    size : length s ≡ 12 * n
    size = h.lent.size

    some : 1 ≤ n
    some = h.lent.some

    whole : length (take (length s) out) ≡ length s
    whole = simp length-take (omega (arith, h.lent.room))

    row : off ≡ 0 → (r : ℕ) → Stands s r → r < n - 1
        → RowShown s c r (take 12 (drop (12 + 12 * r) (take (length s) out)))
    row z r a b =
        let has = h.each.counted.there r b in
        record {
          source = in_set r;
          from = changed r a
              (record {
                has = has;
                is = o.own z r (omega (arith, b, l));
                before = λ j d e. omega (arith, d, o.own z j (omega (arith, d, b, l)), e);
              });
          bytes = parts_same (12 + 12 * r) (take (length s) out) (8 + 14 * r) c (omega (arith, whole, a))
              (omega (arith, has))
              (λ j k. get_or-take (length s) out (12 + 12 * r + j) 0 (omega (arith, a, k))
              ∙ h.rows r j (omega (arith, b, l)) k);
        }
