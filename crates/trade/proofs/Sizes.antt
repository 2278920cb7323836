-- The sizes that an operation gives lie within what it was lent: a table or a text stands at the front of it.
use Prim.Native.Nat.{ℕ, ◌≤◌}
use mathlib.Core.List.{List, ◌++◌}
use native.Mathlib.Omega.{arith}
use lib.ListN.{length, drop, length-append}
use Rattle.table.proofs.Refusals.{by_unless}
use Rattle.tree.proofs.Begins.{by_beginning}
use Rattle.roads.specs.Text.{Said}
use Rattle.roads.specs.Both.{unread, read}
use Rattle.std.specs.Prelude.{Ok, Err}
use Rattle.dimacs.specs.Read.{ReadAnswer, read_refusal, MakesTable, ReadOf}
use Rattle.dimacs.specs.Write.{Wrote, write_refusal, GivesTexts, WriteOf}
use Rattle.dimacs.specs.declared.Texts.{Texts}

front_within : (t r : List ℕ) → length t ≤ length (t ++ r)
front_within t r = omega (arith, length-append t r)

-- of a refusal there is nothing to say
abbrev TableWithin : ReadAnswer × List ℕ → Type 0
TableWithin (Ok n, now) = n ≤ length now
TableWithin (Err why, now) = Unit

abbrev TextsWithin : Wrote → Type 0
TextsWithin (Ok sizes, long, heavy) = (sizes.lengths ≤ length long) × (sizes.weights ≤ length heavy)
TextsWithin (Err why, long, heavy) = Unit

made_within : (a b : Said) (bound : ℕ) (old : List ℕ) (o : ReadAnswer × List ℕ) → MakesTable a b bound old o
    → TableWithin o
made_within a b bound old o m =
    by_unless TableWithin tt
    (λ _ x p.
    by_beginning TableWithin (read_refusal old) m.table (λ _ _ _ _. tt)
    (λ y e. rw e (front_within m.table (drop (length m.table) old))) p)
    m.outcome

module _ {lengths weights old : List ℕ} {bound : ℕ} where
  read_within : (o : ReadAnswer × List ℕ) → ReadOf lengths weights bound old o → TableWithin o
  read_within o (unread n) = tt
  read_within o (read {a = a} {b = b} l w p) =
      by_unless TableWithin tt
      (λ _ x q.
      by_unless TableWithin tt
      (λ _ y r. by_unless TableWithin tt (λ _ z m. made_within a b bound old z m) r) q)
      p

  pub table_within : {now : List ℕ} {n : ℕ} → ReadOf lengths weights bound old (Ok n, now) → n ≤ length now
  table_within p = read_within _ p

module _ {s lengths weights : List ℕ} where
  given_within : (n : ℕ) (o : Wrote) → GivesTexts s n lengths weights o → TextsWithin o
  given_within n o g =
      by_unless TextsWithin tt
      (λ _ x e.
      rw e (
        front_within g.long (drop (length g.long) lengths),
        front_within g.heavy (drop (length g.heavy) weights),
      ))
      g.outcome

  write_within : (o : Wrote) → WriteOf s lengths weights o → TextsWithin o
  write_within o p =
      by_unless TextsWithin tt
      (λ _ x q.
      by_unless TextsWithin tt
      (λ _ y r.
      by_unless TextsWithin tt
      (λ _ z b.
      by_beginning TextsWithin (write_refusal lengths weights) s (λ _ _ _ _. tt) (λ v g. given_within _ v g) b)
      r)
      q)
      p

  pub texts_within : {long heavy : List ℕ} {sizes : Texts} → WriteOf s lengths weights (Ok sizes, long, heavy)
      → (sizes.lengths ≤ length long) × (sizes.weights ≤ length heavy)
  texts_within p = write_within _ p
