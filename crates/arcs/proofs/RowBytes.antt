-- Rows as bytes: how long they are, how one more is stored, and that the header has 12.
use Prim.Native.Nat.{ℕ, ◌+◌, ◌*◌}
use mathlib.Core.Path.{◌≡◌, refl, sym, ap, ◌∙◌}
use mathlib.Core.List.{List, [], ◌∷◌, ◌++◌, append_assoc, append-nil}
use native.Mathlib.Omega.{arith}
use lib.ListN.{length, length-append}
use lib.Seq.{sets}
use Rattle.arrays.proofs.Stores.{sets_append}
use Rattle.numbers.specs.Bytes.{bytes}
use Rattle.numbers.proofs.Stored.{bytes_length}
use Rattle.text.specs.Word.{word}
use Rattle.arcs.specs.Made.{RowFields, row_bytes, rows_bytes, header_bytes}

pub row_size : (f : RowFields) → length (row_bytes f) ≡ 12
unfolding row_bytes
row_size f = simp (length-append, bytes_length)

pub rows_size : (l : List RowFields) → length (rows_bytes l) ≡ 12 * length l
unfolding rows_bytes
rows_size [] = refl
rows_size (f ∷ l) = omega (arith, length-append (row_bytes f) (rows_bytes l), row_size f, rows_size l)

pub header_size : (n bound : ℕ) → length (header_bytes n bound) ≡ 12
unfolding header_bytes word
header_size n bound = simp (length-append, bytes_length)

pub rows_append : (l m : List RowFields) → rows_bytes (l ++ m) ≡ rows_bytes l ++ rows_bytes m
unfolding rows_bytes
rows_append [] m = refl
rows_append (f ∷ l) m = rw (rows_append l m) (sym (append_assoc (row_bytes f) (rows_bytes l) (rows_bytes m)))

pub rows_end : (l : List RowFields) (f : RowFields) → rows_bytes (l ++ f ∷ []) ≡ rows_bytes l ++ row_bytes f
unfolding rows_bytes
rows_end l f = rw (rows_append l (f ∷ []), append-nil (row_bytes f)) refl

-- four numbers stored one after the other are a row
pub row_sets : (l : List ℕ) (i : ℕ) (f : RowFields)
    → sets (sets (sets (sets l i (bytes 2 f.a)) (i + 2) (bytes 2 f.b)) (i + 4) (bytes 4 f.length)) (i + 8)
    (bytes 4 f.weight) ≡ sets l i (row_bytes f)
unfolding row_bytes
row_sets l i f =
    sym
    (sets_append l i (i + 8) (bytes 2 f.a ++ bytes 2 f.b ++ bytes 4 f.length) _
    (simp (length-append, bytes_length) (omega arith))
    ∙ rw (sets_append l i (i + 4) (bytes 2 f.a ++ bytes 2 f.b) (bytes 4 f.length)
    (simp (length-append, bytes_length) (omega arith)))
    (rw (sets_append l i (i + 2) (bytes 2 f.a) (bytes 2 f.b) (simp bytes_length (omega arith)))))

-- a row stored after those that stand from byte 12 on
pub rows_sets : (old : List ℕ) (l : List RowFields) (f : RowFields) (c : ℕ) → length l ≡ c
    → sets (sets old 12 (rows_bytes l)) (12 * c + 12) (row_bytes f) ≡ sets old 12 (rows_bytes (l ++ f ∷ []))
rows_sets old l f c e =
    sym
    (ap (sets old 12) (rows_end l f)
    ∙ sets_append old 12 (12 * c + 12) (rows_bytes l) (row_bytes f) (omega (arith, rows_size l)))
