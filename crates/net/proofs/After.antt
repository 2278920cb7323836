-- Where a row has one number only if the rows before it are good, two promises that name the first bad row still give
-- related outcomes where what follows does: the rows before that one are good. It is the law of all rows, at the
-- numbers of rows after good ones.
use Prim.Native.Nat.{ℕ, ◌<◌}
use native.Mathlib.Omega.{arith}
use Rattle.table.specs.Refuse.{FirstBad, bad, fine, Only}
use Rattle.table.proofs.Refusals.{first_bad_both, settled_rows}

-- row i has number k, and the rows before it are good
abbrev After : (ℕ → ℕ → Type 0) → ℕ → ℕ → Type 0
After Number i k = Number i k × ((j : ℕ) → j < i → Number j 0)

one_after : {Number : ℕ → ℕ → Type 0} → ((i : ℕ) → ((j : ℕ) → j < i → Number j 0) → Only (Number i)) → (i : ℕ)
    → Only (After Number i)
one_after one i a b s t = one i s.1 a b s.0 t.0

module _ {A : Type 0} {refusal : ℕ → ℕ → A} {m : ℕ} {Number : ℕ → ℕ → Type 0} where
  after : {rest : A → Type 0} {x : A} → FirstBad A refusal m Number rest x → FirstBad A refusal m (After Number) rest x
  after (bad r k l before is not) = bad r k l (λ i h. (before i h, λ j g. before j (omega arith))) (is, before) not
  after (fine all p) = fine (λ i h. (all i h, λ j g. all j (omega arith))) p

  module _ (one : (i : ℕ) → ((j : ℕ) → j < i → Number j 0) → Only (Number i)) where
    pub both_after : (R : A → A → Type 0) → ((k r : ℕ) → R (refusal k r) (refusal k r)) → {rest rest' : A → Type 0}
        → ((x y : A) → rest x → rest' y → R x y) → (x y : A) → FirstBad A refusal m Number rest x
        → FirstBad A refusal m Number rest' y → R x y
    both_after R self o x y p q = first_bad_both R self (one_after one) o x y (after p) (after q)

    -- where all rows are good, what is left is the rest
    pub settled_after : {rest : A → Type 0} {x : A} → ((i : ℕ) → i < m → Number i 0)
        → FirstBad A refusal m Number rest x → rest x
    settled_after all p =
        settled_rows {Number = After Number} (one_after one) (λ i h. (all i h, λ j g. all j (omega arith))) (after p)
