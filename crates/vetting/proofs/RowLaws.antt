-- What a row's bytes say: a row that is an entry's reads back as the entry, so that it names the entry's pair; rows
-- with the same first four bytes name one pair; and a row whose four numbers are an entry's is the entry's row.
use Prim.Native.Nat.{ℕ, ◌+◌, ◌*◌, ◌≤◌, ◌<◌}
use mathlib.Core.Path.{◌≡◌, refl, sym, ap, ◌∙◌}
use mathlib.Core.List.{List, ◌++◌}
use native.Mathlib.Omega.{arith}
use lib.IntN.{ℤ}
use lib.ListN.{length, take, drop, take-append-drop, length-take, length-drop}
use lib.Seq.{length-take-le, take_at, get_or-take, get_or-drop}
use mir.Syntax.{w64}
use mir.Val.{of_z}
use Rattle.table.specs.Bytes.{byte_at, u16_at, u32_at}
use Rattle.numbers.specs.Bytes.{bytes, u64_at, EachByte}
use Rattle.numbers.proofs.There.{From, then, two_at, four_at, eight_at}
use Rattle.pages.specs.Listing.{Entry, entry}
use Rattle.pages.specs.Bytes.{row, entry_at}
use Rattle.pages.specs.work.RowFits.{RowFits}
use Rattle.pages.proofs.Rows.{row_length}
use Rattle.pages.proofs.Back.{entry_back, bits_back}
use Rattle.vetting.specs.Vets.{list_row, list_pair}
use Rattle.vetting.specs.work.Repeats.{low_of, high_of}
use Rattle.vetting.proofs.RowsAt.{pair_first}

module _ (s : List ℕ) (i : ℕ) (e : Entry) (q : list_row s i ≡ row e) where
  -- all of the row stands in the list
  long : 16 * i + 16 ≤ length s
  long =
      omega (arith, ap length q, row_length e, length-take 16 (drop (16 * i) s), length-drop (16 * i) s)

  apart : s ≡ take (16 * i) s ++ (row e ++ drop 16 (drop (16 * i) s))
  apart =
      sym
      (ap (λ (t : List ℕ). take (16 * i) s ++ t)
      (ap (λ (t : List ℕ). t ++ drop 16 (drop (16 * i) s)) (sym q) ∙ take-append-drop 16 (drop (16 * i) s))
      ∙ take-append-drop (16 * i) s)

  -- it reads back as the entry
  row_entry : RowFits e → entry_at s (16 * i) ≡ e
  row_entry f =
      ap (λ (t : List ℕ). entry_at t (16 * i)) apart
      ∙ entry_back (take (16 * i) s) e (drop 16 (drop (16 * i) s)) (16 * i)
      (length-take-le (16 * i) s (omega (arith, long))) f

  pub row_low : RowFits e → low_of s i ≡ e.low
  row_low f = ap (λ (x : Entry). x.low) (row_entry f)

  pub row_high : RowFits e → high_of s i ≡ e.high
  row_high f = ap (λ (x : Entry). x.high) (row_entry f)

  pub row_length_says : RowFits e → u32_at s (16 * i + 4) ≡ e.length
  row_length_says f = ap (λ (x : Entry). x.length) (row_entry f)

  pub row_bits : RowFits e → u64_at s (16 * i + 8) ≡ of_z w64 e.weight
  row_bits f =
      ap (λ (t : List ℕ). u64_at t (16 * i + 8)) apart
      ∙ bits_back (take (16 * i) s) e (drop 16 (drop (16 * i) s)) (16 * i)
      (length-take-le (16 * i) s (omega (arith, long))) f

  -- the four bytes that name its pair
  pub row_names : list_pair s i ≡ take 4 (row e)
  row_names = pair_first s i ∙ ap (take 4) q

-- they are those of the two nodes
named_front : (e : Entry) → take 4 (row e) ≡ bytes 2 e.low ++ bytes 2 e.high
unfolding row bytes
named_front e = refl

pub same_front : (e f : Entry) → e.low ≡ f.low → e.high ≡ f.high → take 4 (row e) ≡ take 4 (row f)
same_front e f a b =
    named_front e ∙ ap (λ x. bytes 2 x ++ bytes 2 e.high) a ∙ ap (λ x. bytes 2 f.low ++ bytes 2 x) b
    ∙ sym (named_front f)

-- rows with the same four bytes name the same pair
byte_of : (s : List ℕ) (i k : ℕ) → k < 4 → byte_at s (16 * i + k) ≡ byte_at (list_pair s i) k
byte_of s i k h = sym (get_or-take 4 (drop (16 * i) s) k 0 h ∙ get_or-drop (16 * i) s k 0)

pub low_read : (s : List ℕ) (i : ℕ) → low_of s i ≡ u16_at (list_pair s i) 0
low_read s i =
    let z : 16 * i + 0 ≡ 16 * i = omega arith in
    omega (arith, ap (byte_at s) z, byte_of s i 0 (omega arith), byte_of s i 1 (omega arith))

pub high_read : (s : List ℕ) (i : ℕ) → high_of s i ≡ u16_at (list_pair s i) 2
high_read s i =
    let z : 16 * i + 2 + 1 ≡ 16 * i + 3 = omega arith in
    omega (arith, ap (byte_at s) z, byte_of s i 2 (omega arith), byte_of s i 3 (omega arith))

-- a row whose fields are an entry's is the entry's row
row_of : (a b l : ℕ) (z : ℤ) {w : ℕ} → w ≡ of_z w64 z
    → ((bytes 2 a ++ bytes 2 b) ++ bytes 4 l) ++ bytes 8 w ≡ row (entry a b l z)
unfolding row bytes
row_of a b l z q = rw q refl

pub row_made : (s : List ℕ) (i : ℕ) (z : ℤ) → EachByte s → 16 * i + 16 ≤ length s → u64_at s (16 * i + 8) ≡ of_z w64 z
    → list_row s i ≡ row (entry (low_of s i) (high_of s i) (u32_at s (16 * i + 4)) z)
row_made s i z all h w =
    let p = 16 * i in
    let q = row_of (low_of s i) (high_of s i) (u32_at s (p + 4)) z w in
    let f : From s p (row (entry (low_of s i) (high_of s i) (u32_at s (p + 4)) z)) (p + 16) = rw (← q)
    (then
    (then
    (then (two_at s all p (p + 2) refl (omega arith)) (two_at s all (p + 2) (p + 4) (omega arith) (omega arith)))
    (four_at s all (p + 4) (p + 8) (omega arith) (omega arith)))
    (eight_at s all (p + 8) (p + 16) (omega arith) h)) in
    ap (take 16) f.is ∙ take_at _ _ 16 (row_length (entry (low_of s i) (high_of s i) (u32_at s (p + 4)) z))
