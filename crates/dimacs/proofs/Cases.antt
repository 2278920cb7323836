-- What holds of each refusal, and of a table or two texts that fit what is lent, holds of the outcome.
use Prim.Native.Nat.{ℕ, ◌≤◌}
use mathlib.Core.List.{List, ◌++◌}
use native.Mathlib.Omega.{arith}
use mathlib.Core.Path.{refl}
use lib.ListN.{length, drop}
use Rattle.table.proofs.Refusals.{by_unless}
use Rattle.tree.proofs.Begins.{Told, by_beginning}
use Rattle.roads.specs.Text.{Said}
use Rattle.roads.specs.Both.{unread, read}
use Rattle.dimacs.specs.Read.{ReadAnswer, read_refusal, MakesTable, Trades, ReadOf}
use Rattle.dimacs.specs.Write.{Wrote, write_refusal, text_in, GivesTexts, WriteOf, both_texts}
use Rattle.std.specs.Prelude.{Ok}
use Rattle.std.specs.Prelude.{Ok}

-- a refusal that names no row
unnamed : (k : ℕ) → Told k 0 0
unnamed k = record { low = omega arith; few = omega arith; alone = λ _. refl }

module _ (C : ReadAnswer × List ℕ → Type 0) (old : List ℕ)
    (no : (k r g : ℕ) → Told k r g → C (read_refusal old k r g))
    (given : (t : List ℕ) → length t ≤ length old → C (Ok (length t), t ++ drop (length t) old)) where
  made : (a b : Said) (bound : ℕ) (o : ReadAnswer × List ℕ) → MakesTable a b bound old o → C o
  made a b bound o m =
      by_unless C (no 29 0 0 (unnamed 29))
      (λ room x. by_beginning C (read_refusal old) m.table no (λ y e. rw e (given m.table room)))
      m.outcome

  traded : (a b : Said) (bound : ℕ) (o : ReadAnswer × List ℕ) → Trades a b bound old o → C o
  traded a b bound o =
      by_unless C (no 27 0 0 (unnamed 27))
      (λ _ x. by_unless C (no 28 0 0 (unnamed 28)) (λ _. made a b bound))

  pub by_reading : {lengths weights : List ℕ} {bound : ℕ} {o : ReadAnswer × List ℕ} → ReadOf lengths weights bound old o
      → C o
  by_reading (unread n) = no 25 0 0 (unnamed 25)
  by_reading {bound = bound} (read {a} {b} p q u) = by_unless C (no 26 0 0 (unnamed 26)) (λ _. traded a b bound) u

module _ (C : Wrote → Type 0) (lengths weights : List ℕ)
    (no : (k r g : ℕ) → Told k r g → C (write_refusal lengths weights k r g))
    (given : (l w : List ℕ) → length l ≤ length lengths → length w ≤ length weights
    → C (both_texts (length l) (length w), text_in l lengths, text_in w weights)) where
  texts : (s : List ℕ) (n : ℕ) (o : Wrote) → GivesTexts s n lengths weights o → C o
  texts s n o t =
      by_unless C (no 29 0 0 (unnamed 29))
      (λ room x e. rw e (given t.long t.heavy room.0 room.1))
      t.outcome

  pub by_writing : {s : List ℕ} {o : Wrote} → WriteOf s lengths weights o → C o
  by_writing {s} =
      by_unless C (no 1 0 0 (unnamed 1))
      (λ _ _. by_unless C (no 2 0 0 (unnamed 2))
      (λ _ _. by_unless C (no 3 0 0 (unnamed 3))
      (λ _ x. by_beginning C (write_refusal lengths weights) s no (texts s _))))
