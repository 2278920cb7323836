-- An operation over a table with a change set, whatever the operation: 1 to 6 of the table, 33, 34, and then the
-- operation's own promise of the changed table. 33 and 34 name no row.
use Rattle.std.specs.Prelude.{List, ℕ}
use Rattle.table.specs.Refuse.{Unless}
use Rattle.table.specs.Header.{Header, nodes_of}
use Rattle.changeset.specs.Entries.{Formed, RowsRise}
use Rattle.changeset.specs.Changed.{WrittenIn}

-- x is an outcome that a promise allows of the changed table
pub record Over {A : Type 0} (s c : List ℕ) (Promise : List ℕ → A → Type 0) (x : A) : Type 0 where
  pub table : List ℕ
  pub changed : WrittenIn s c table
  pub promise : Promise table x

-- `refuse` is the operation's own refusal: number, row, ring
abbrev pub With : (A : Type 0) → (ℕ → ℕ → ℕ → A) → List ℕ → List ℕ → (List ℕ → A → Type 0) → A → Type 0
With A refuse s c Promise =
    Header A (λ k r. refuse k r 0) s
    (Unless A (refuse 33 0 0) (Formed c)
    (Unless A (refuse 34 0 0) (RowsRise (nodes_of s) c)
    (Over s c Promise)))
