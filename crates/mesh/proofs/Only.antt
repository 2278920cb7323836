-- The promise of mesh allows one outcome: of the rows' pairs one is the first that comes again, there is one greatest
-- number of branches, and one first pair of ends.
use Prim.Native.Nat.{ℕ, ◌≤◌, ◌<◌}
use mathlib.Core.Path.{◌≡◌, sym, ◌∙◌}
use mathlib.Core.Logic.{◌⊎◌, inl, inr}
use mathlib.Core.List.{List}
use native.Mathlib.Omega.{arith}
use Rattle.table.specs.Refuse.{Only}
use Rattle.table.specs.Header.{nodes_of}
use Rattle.table.proofs.Refusals.{unless_only, first_bad_only}
use Rattle.table.proofs.Accepted.{row_number_only}
use Rattle.net.specs.Net.{first_end, second_end}
use Rattle.mesh.specs.Table.{rows_of, MeshHeader}
use Rattle.mesh.specs.Mesh.{Longest}
use Rattle.mesh.specs.Answer.{MeshAnswer, mesh_refusal, GivesLongest, MeshJoined, Answered, MeshOf, most}
use Rattle.std.specs.Prelude.{Ok, Err}

-- of two pairs that are each first, either way round
first_both : {a b c d : ℕ} → (a < c) ⊎ ((a ≡ c) × (b ≤ d)) → (c < a) ⊎ ((c ≡ a) × (d ≤ b)) → (a ≡ c) × (b ≡ d)
first_both (inl h) (inl g) = absurd (omega arith)
first_both (inl h) (inr g) = absurd (omega (arith, g.0))
first_both (inr h) (inl g) = absurd (omega (arith, h.0))
first_both (inr h) (inr g) = (h.0, omega (arith, h.1, g.1))

module _ {u v : ℕ → ℕ} {k n : ℕ} where
  -- the greatest number
  most_only : {l m a b c d : ℕ} → Longest u v k n l a b → Longest u v k n m c d → l ≡ m
  most_only {l} {m} {a} {b} {c} {d} p q =
      omega (arith, q.most a b l p.within p.some, p.most c d m q.within q.some)

  pub longest_only : {l m a b c d : ℕ} → Longest u v k n l a b → Longest u v k n m c d → (l ≡ m) × (a ≡ c) × (b ≡ d)
  longest_only {l} {m} {a} {b} {c} {d} p q =
      let e = most_only p q in
      let f = first_both (p.first c d q.within (rw (sym e) at q.some))
      (q.first a b p.within (rw e at p.some)) in
      (e, f.0, f.1)

gives_only : (u v : ℕ → ℕ) (k n : ℕ) → Only (GivesLongest u v k n)
gives_only u v k n (Ok o) (Ok o') p q =
    let e = longest_only p q in λ i. most (e.0 i) (e.1 i) (e.2 i)
gives_only u v k n (Ok o) (Err w) p q = absurd q
gives_only u v k n (Err w) y p q = absurd p

joins_only : (u v : ℕ → ℕ) (k n : ℕ) → Only (MeshJoined u v k n)
joins_only u v k n = unless_only (unless_only (gives_only u v k n))

pub answered_only : (u v : ℕ → ℕ) (k n : ℕ) → Only (Answered u v k n)
answered_only u v k n = first_bad_only (λ i. unless_only (λ x y p q. p ∙ sym q)) (joins_only u v k n)

header_only : (s : List ℕ) {rest : MeshAnswer → Type 0} → Only rest → Only (MeshHeader MeshAnswer mesh_refusal s rest)
header_only s o = unless_only (unless_only (unless_only (unless_only (unless_only (unless_only o)))))

pub mesh_only : (s : List ℕ) → Only (MeshOf s)
mesh_only s =
    header_only s
    (first_bad_only (row_number_only (nodes_of s) s)
    (answered_only (first_end s) (second_end s) (rows_of s) (nodes_of s)))
