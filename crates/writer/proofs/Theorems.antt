-- What was written, read back as a row of a version 2 table, is those numbers, with the weight by the scores; it is a
-- good row of every net that has its two nodes, and no filler. Each byte of the 12 is one of the row's, and two or four
-- of them make up the number again.
use Prim.Native.Nat.{ℕ, ◌+◌, ◌*◌, ◌≤◌, ◌<◌}
use mathlib.Core.Path.{◌≡◌, refl, sym, ap, ◌∙◌}
use mathlib.Core.List.{List}
use mathlib.Core.Logic.{◌≢◌}
use native.Mathlib.Omega.{arith}
use lib.IntN.{pos, ◌*ℤ◌}
use lib.ListN.{get_or, take, drop}
use lib.Seq.{get_or-take, get_or-drop}
use Rattle.table.specs.Refuse.{passed}
use Rattle.table.specs.Bytes.{byte_at, u16_at, u32_at}
use Rattle.table.specs.Header.{version_of}
use Rattle.table.specs.Scores.{score_of}
use Rattle.table.specs.Row.{row_at, kind_at, count_at, weight_at}
use Rattle.table.specs.Examine.{RowNumber}
use Rattle.table.specs.declared.Row.{Row}
use Rattle.table.proofs.Refusals.{past}
use Rattle.numbers.specs.Bytes.{bytes}
use Rattle.writer.specs.WriteRow.{RowAnswer, Filler, cell_row, WritesRow}
use Rattle.std.specs.Prelude.{Ok, Err}

-- what a call that is not refused was given, and the bytes it left
pub record Wrote (a b wire kind count : ℕ) (after : List ℕ) : Type 0 where
  pub first : a ≤ 4095
  pub second : b ≤ 4095
  pub apart : a ≢ b
  pub short : wire ≤ 1000000
  pub known : kind < 64
  pub kept : Filler kind → ⊥
  pub few : count ≤ 20000
  pub bytes : after ≡ cell_row a b wire kind count

-- a written row is no refusal
plain : {l after : List ℕ} {k r : ℕ} → ◌≡◌ {A = RowAnswer × List ℕ} (Err (record { number = k; row = r }), l)
    (Ok tt, after) → ⊥
plain e = let f : ◌≡◌ {A = ℕ} 1 0 = ap (λ x. refusals x.0) e in omega (arith, f)
  where
    refusals : RowAnswer → ℕ
    refusals (Ok one) = 0
    refusals (Err w) = 1

pub wrote : {a b wire kind count : ℕ} {before after : List ℕ}
    → WritesRow a b wire kind count before (Ok tt, after) → Wrote a b wire kind count after
wrote p =
    let e = past plain p in
    let f = past plain e.1 in
    let g = past plain f.1 in
    let h = past plain g.1 in
    let i = past plain h.1 in
    let j = past plain i.1 in
    let k = past plain j.1 in
    record {
      first = e.0.0;
      second = e.0.1;
      apart = f.0;
      short = g.0;
      known = h.0;
      kept = λ f. search (i.0, j.0, f);
      few = j.0;
      bytes = ap (λ x. x.1) k.1;
    }

-- the bytes written stand as row r of a version 2 table
module _ (s : List ℕ) (r : ℕ) (two : version_of s ≡ 2) {a b wire kind count : ℕ} {after : List ℕ}
    (w : Wrote a b wire kind count after) (there : take 12 (drop (12 + 12 * r) s) ≡ after) where
  byte : (j i : ℕ) → i ≡ 12 + 12 * r + j → j < 12 → byte_at s i ≡ byte_at (cell_row a b wire kind count) j
  byte j i e h =
      rw e
      (sym (get_or-drop (12 + 12 * r) s j 0)
      ∙ sym (get_or-take 12 (drop (12 + 12 * r) s) j 0 h)
      ∙ ap (λ (l : List ℕ). get_or l j 0) (there ∙ w.bytes))

  first_is : u16_at s (12 + 12 * r) ≡ a
  unfolding cell_row bytes
  first_is =
      omega (
        arith,
        byte 0 (12 + 12 * r) (omega arith) (omega arith),
        byte 1 (12 + 12 * r + 1) refl (omega arith),
        w.first,
      )

  second_is : u16_at s (14 + 12 * r) ≡ b
  unfolding cell_row bytes
  second_is =
      omega (
        arith,
        byte 2 (14 + 12 * r) (omega arith) (omega arith),
        byte 3 (14 + 12 * r + 1) (omega arith) (omega arith),
        w.second,
      )

  length_is : u32_at s (16 + 12 * r) ≡ wire
  unfolding cell_row bytes
  length_is =
      omega (
        arith,
        byte 4 (16 + 12 * r) (omega arith) (omega arith),
        byte 5 (16 + 12 * r + 1) (omega arith) (omega arith),
        byte 6 (16 + 12 * r + 2) (omega arith) (omega arith),
        byte 7 (16 + 12 * r + 3) (omega arith) (omega arith),
        w.short,
      )

  pub kind_is : kind_at s r ≡ kind
  unfolding cell_row bytes
  kind_is =
      omega (
        arith,
        byte 8 (20 + 12 * r) (omega arith) (omega arith),
        byte 9 (20 + 12 * r + 1) (omega arith) (omega arith),
        w.known,
      )

  pub count_is : count_at s r ≡ count
  unfolding cell_row bytes
  count_is =
      omega (
        arith,
        byte 10 (22 + 12 * r) (omega arith) (omega arith),
        byte 11 (22 + 12 * r + 1) (omega arith) (omega arith),
        w.few,
      )

  weight_is : weight_at s r ≡ pos count *ℤ score_of kind
  weight_is = rw (two, kind_is, count_is) refl

  -- READ BACK
  pub read_back : ◌≡◌ {A = Row} (row_at s r)
      (record { a = a; b = b; length = wire; weight = pos count *ℤ score_of kind })
  read_back = λ i. record { a = first_is i; b = second_is i; length = length_is i; weight = weight_is i }

  -- A GOOD ROW, in a net that has its two nodes
  pub good_row : (n : ℕ) → a < n → b < n → RowNumber n s r 0
  good_row n h k =
      passed (omega (arith, first_is), omega (arith, second_is))
      (passed (λ e. w.apart (sym first_is ∙ e ∙ second_is))
      (passed (omega (arith, length_is, w.short))
      (passed (λ m. absurd (m two))
      (passed (λ _. omega (arith, kind_is, w.known)) (passed (λ _. omega (arith, count_is, w.few)) refl)))))

  -- AND NO FILLER
  pub no_filler : Filler (kind_at s r) → ⊥
  no_filler f = w.kept (rw kind_is at f)
