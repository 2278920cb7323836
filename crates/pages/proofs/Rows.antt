-- Rows as bytes: how long they are, and how one more is stored.
use Prim.Native.Nat.{ℕ, ◌+◌, ◌*◌, ◌≤◌}
use mathlib.Core.Path.{◌≡◌, refl, sym, ◌∙◌}
use mathlib.Core.List.{List, [], ◌∷◌, ◌++◌, append_assoc, append-nil}
use native.Mathlib.Omega.{arith}
use lib.ListN.{length, drop, length-append}
use lib.Seq.{sets, sets-eq, take-append_seam, drop-append-add}
use mir.Syntax.{w64}
use mir.Val.{of_z}
use Rattle.arrays.proofs.Stores.{sets_append}
use Rattle.pages.specs.Listing.{Entry}
use Rattle.numbers.specs.Bytes.{bytes}
use Rattle.numbers.proofs.Stored.{bytes_length}
use Rattle.pages.specs.Bytes.{row, rows}

pub row_length : (e : Entry) → length (row e) ≡ 16
unfolding row
row_length e = simp (length-append, bytes_length)

pub rows_length : (l : List Entry) → length (rows l) ≡ 16 * length l
unfolding rows
rows_length [] = refl
rows_length (e ∷ l) = omega (arith, length-append (row e) (rows l), row_length e, rows_length l)

pub rows_append : (l m : List Entry) → rows (l ++ m) ≡ rows l ++ rows m
unfolding rows
rows_append [] m = refl
rows_append (x ∷ l) m = rw (rows_append l m) (sym (append_assoc (row x) (rows l) (rows m)))

pub rows_end : (l : List Entry) (e : Entry) → rows (l ++ e ∷ []) ≡ rows l ++ row e
unfolding rows
rows_end l e = rw (rows_append l (e ∷ []), append-nil (row e)) refl

pub row_sets : (l : List ℕ) (i : ℕ) (e : Entry)
    → sets (sets (sets (sets l i (bytes 2 e.low)) (i + 2) (bytes 2 e.high)) (i + 4) (bytes 4 e.length)) (i + 8)
    (bytes 8 (of_z w64 e.weight)) ≡ sets l i (row e)
unfolding row
row_sets l i e =
    let a = bytes_length 2 e.low in
    let b = bytes_length 2 e.high in
    let c = bytes_length 4 e.length in
    sym
    (sets_append l i (i + 8) (bytes 2 e.low ++ bytes 2 e.high ++ bytes 4 e.length) _
    (simp (length-append, bytes_length) (omega arith))
    ∙ rw (sets_append l i (i + 4) (bytes 2 e.low ++ bytes 2 e.high) (bytes 4 e.length)
    (simp (length-append, bytes_length) (omega arith)))
    (rw (sets_append l i (i + 2) (bytes 2 e.low) (bytes 2 e.high)
    (simp (length-append, bytes_length) (omega arith)))))

-- a store right after a
sets_seam : (a b r : List ℕ) → length r ≤ length b → sets (a ++ b) (length a) r ≡ a ++ r ++ drop (length r) b
sets_seam a b r h =
    sets-eq r (a ++ b) (length a) (omega (arith, length-append a b))
    ∙ rw (take-append_seam a b, drop-append-add a b (length r))

pub sets_after : (a b r : List ℕ) (n : ℕ) → n ≡ length a → length r ≤ length b
    → sets (a ++ b) n r ≡ a ++ r ++ drop (length r) b
sets_after a b r n e h = rw e (sets_seam a b r h)
