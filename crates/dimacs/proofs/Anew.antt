-- A table of version 1 is the bytes of its header and of its rows' fields, made anew.
use Prim.Native.Nat.{ℕ, zero, suc, ◌+◌, ◌-◌, ◌*◌, ◌≤◌}
use mathlib.Core.Path.{◌≡◌, refl, ap, ◌∙◌}
use mathlib.Core.List.{List, [], ◌∷◌, ◌++◌, append-nil}
use native.Mathlib.Omega.{arith}
use lib.ListN.{length}
use lib.Seq.{drop-cons, drop-length}
use Rattle.text.specs.Word.{word}
use Rattle.table.specs.Bytes.{byte_at, u16_at}
use Rattle.table.specs.Header.{Lettered, version_of, nodes_of, bound_of}
use Rattle.numbers.specs.Bytes.{bytes, EachByte}
use Rattle.numbers.proofs.There.{From, then, two_at, four_at}
use Rattle.arcs.specs.Made.{row_bytes, rows_bytes, header_bytes}
use Rattle.arcs.proofs.RowBytes.{rows_end}
use Rattle.arcs.proofs.Back.{fields_of, fields_up_to}
use Rattle.written.specs.Written.{length_arc, weight_arc}

module _ (s : List ℕ) (all : EachByte s) where
  -- a row's fields: its nodes are those of its arcs less 1
  row_there : (r n : ℕ) → n ≡ 24 + 12 * r → n ≤ length s
      → From s (12 + 12 * r) (row_bytes (fields_of (length_arc s r) (weight_arc s r))) n
  unfolding row_bytes
  row_there r n e h =
      let a : u16_at s (12 + 12 * r) + 1 - 1 ≡ u16_at s (12 + 12 * r) = omega arith in
      let b : u16_at s (14 + 12 * r) + 1 - 1 ≡ u16_at s (14 + 12 * r) = omega arith in
      rw (a, b)
      (then
      (then
      (then (two_at s all (12 + 12 * r) (14 + 12 * r) (omega arith) (omega arith))
      (two_at s all (14 + 12 * r) (16 + 12 * r) (omega arith) (omega arith)))
      (four_at s all (16 + 12 * r) (20 + 12 * r) (omega arith) (omega arith)))
      (four_at s all (20 + 12 * r) n (omega arith) h))

  rows_there : (m n : ℕ) → n ≡ 12 + 12 * m → n ≤ length s
      → From s 12 (rows_bytes (fields_up_to (length_arc s) (weight_arc s) m)) n
  unfolding fields_up_to rows_bytes
  rows_there zero n e h = rw e (record { is = refl })
  rows_there (suc m) n e h =
      rw (rows_end (fields_up_to (length_arc s) (weight_arc s) m) (fields_of (length_arc s m) (weight_arc s m)))
      (then (rows_there m (12 + 12 * m) refl (omega arith)) (row_there m n (omega arith) h))

  one_at : (i j x : ℕ) → suc i ≡ j → j ≤ length s → byte_at s i ≡ x → From s i (x ∷ []) j
  one_at i j x e l f = record { is = rw (← e, ← f) (drop-cons s i 0 (omega arith)) }

  letters_there : 3 ≤ length s → Lettered s → From s 0 (word "RTN") 3
  unfolding word
  letters_there h (a, b, c) =
      then (then (one_at 0 1 82 refl (omega arith) a) (one_at 1 2 84 refl (omega arith) b)) (one_at 2 3 78 refl h c)

  spare_there : 8 ≤ length s → byte_at s 7 ≡ 0 → From s 7 (bytes 1 0) 8
  unfolding bytes
  spare_there h z = one_at 7 8 0 refl h z

  version_there : 5 ≤ length s → version_of s ≡ 1 → From s 3 (bytes 2 1) 5
  version_there h v = rw v at (two_at s all 3 5 refl h)

  header_there : 12 ≤ length s → Lettered s → version_of s ≡ 1 → byte_at s 7 ≡ 0
      → From s 0 (header_bytes (nodes_of s) (bound_of s)) 12
  unfolding header_bytes
  header_there h l v z =
      then
      (then
      (then (then (letters_there (omega arith) l) (version_there (omega arith) v))
      (two_at s all 5 7 refl (omega arith)))
      (spare_there (omega arith) z))
      (four_at s all 8 12 refl h)

  -- THE TABLE, WHOLE
  pub made_anew : (m : ℕ) → length s ≡ 12 + 12 * m → Lettered s → version_of s ≡ 1 → byte_at s 7 ≡ 0
      → s ≡ header_bytes (nodes_of s) (bound_of s) ++ rows_bytes (fields_up_to (length_arc s) (weight_arc s) m)
  made_anew m e l v z =
      let whole = then (header_there (omega arith) l v z) (rows_there m (length s) e (omega arith)) in
      let t = header_bytes (nodes_of s) (bound_of s) ++ rows_bytes (fields_up_to (length_arc s) (weight_arc s) m) in
      whole.is ∙ ap (λ (r : List ℕ). t ++ r) (drop-length s) ∙ append-nil t
