-- A row's five numbers, stored one after the other into 12 bytes, are the row.
use Prim.Native.Nat.{ℕ, ◌+◌}
use mathlib.Core.Path.{◌≡◌, refl, ◌∙◌}
use mathlib.Core.List.{List, ◌++◌, append-nil}
use native.Mathlib.Nat.{zero-add}
use native.Mathlib.Omega.{arith}
use lib.ListN.{length, take, drop, length-append}
use lib.Seq.{sets, sets-eq, drop-length}
use Rattle.numbers.specs.Bytes.{bytes}
use Rattle.numbers.proofs.Stored.{bytes_length}
use Rattle.writer.specs.WriteRow.{cell_row}

pub cell_row_size : (a b wire kind count : ℕ) → length (cell_row a b wire kind count) ≡ 12
unfolding cell_row
cell_row_size a b wire kind count = simp (length-append, bytes_length)

-- a store of as many as there are leaves nothing of what was there
whole : (l vs : List ℕ) → length l ≡ length vs → sets l 0 vs ≡ vs
whole l vs h = sets-eq vs l 0 (omega arith) ∙ end
  where
    end : take 0 l ++ vs ++ drop (0 + length vs) l ≡ vs
    end = rw (zero-add (length vs), ← h, drop-length l, append-nil vs) refl

in_turn : (l : List ℕ) (a b wire kind count : ℕ)
    → sets
    (sets (sets (sets (sets l 0 (bytes 2 a)) 2 (bytes 2 b)) 4 (bytes 4 wire)) 8 (bytes 2 kind)) 10 (bytes 2 count)
    ≡ sets l 0 (cell_row a b wire kind count)
unfolding cell_row bytes
in_turn l a b wire kind count = refl

pub row_stored : (l : List ℕ) (a b wire kind count : ℕ) → length l ≡ 12
    → sets
    (sets (sets (sets (sets l 0 (bytes 2 a)) 2 (bytes 2 b)) 4 (bytes 4 wire)) 8 (bytes 2 kind)) 10 (bytes 2 count)
    ≡ cell_row a b wire kind count
row_stored l a b wire kind count h =
    in_turn l a b wire kind count
    ∙ whole l (cell_row a b wire kind count) (omega (arith, cell_row_size a b wire kind count))
