-- The texts of a table. What is written says the rows: n nodes, two arcs for each row, each row's arc and then its
-- opposite, in order; and since a text says one thing, whatever is read from it is that. So the two texts of one table
-- agree, and an operation that begins by reading them goes on with the rows.
use mathlib.Core.Path.{◌≡◌, refl, sym}
use mathlib.Core.List.{List, [], ◌∷◌}
use Prim.Native.Nat.{ℕ, zero, suc, ◌*◌}
use native.Mathlib.Omega.{arith}
use lib.ListN.{length, length-append}
use Rattle.table.proofs.Refusals.{settled}
use Rattle.roads.specs.Text.{Arc, Lines, Said, Says, problem, Lengths, Weights}
use Rattle.roads.specs.Text as text
use Rattle.roads.specs.Both.{Agree, Reads, unread, read}
use Rattle.roads.proofs.Only.{says_only}
use Rattle.written.specs.Written.{opposite, arcs_written, ArcLines, Written}
use Rattle.written.specs.Written as written

-- what is written of rows, as a text says it
abbrev pub said_of : ℕ → (ℕ → Arc) → ℕ → Said
said_of n row m = record { nodes = n; count = 2 * m; arcs = arcs_written row m }

lines_say : {top low n : ℕ} {s : List ℕ} {l : List Arc} → ArcLines top low n s l → Lines top low n s l
lines_say written.ArcLines.done = text.Lines.done
lines_say (written.ArcLines.arc e x) = text.Lines.arc e (lines_say x)

module _ {top low n m : ℕ} {row : ℕ → Arc} {t : List ℕ} (w : Written top low n row m t) where
  pub written_says : Says top low t (said_of n row m)
  written_says = problem w.problem (lines_say w.arcs)

  -- A TEXT, READ BACK
  pub text_back : {a : Said} → Says top low t a → a ≡ said_of n row m
  text_back x = says_only x written_says

pub written_count : (row : ℕ → Arc) (m : ℕ) → length (arcs_written row m) ≡ 2 * m
unfolding arcs_written
written_count row zero = refl
written_count row (suc m) =
    omega (arith, length-append (arcs_written row m) (row m ∷ opposite (row m) ∷ []), written_count row m)

-- THE TWO TEXTS OF ROWS PASS 25 AND 26
module _ {n m : ℕ} {row heavy : ℕ → Arc} {s w : List ℕ} (f : Written 4294967295 0 n row m s)
    (g : Written 2147483647 2147483648 n heavy m w) where
  pub written_agree : {a b : Said} → Lengths s a → Weights w b → Agree a b
  written_agree x y = rw (text_back f x, text_back g y) (record {
    lengths = sym (written_count row m);
    weights = sym (written_count heavy m);
    nodes = refl;
    count = refl;
  })

  pub written_read : {A : Type 0} {refusal : ℕ → A} {rest : Said → Said → A → Type 0} {o : A}
      → Reads A refusal s w rest o → rest (said_of n row m) (said_of n heavy m) o
  written_read (unread h) = absurd (h _ _ (written_says f) (written_says g))
  written_read (read x y u) = rw (text_back f x, text_back g y) at (settled (written_agree x y) u)
