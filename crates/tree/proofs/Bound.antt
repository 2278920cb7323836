-- Two tables equal but for the bytes of B begin alike: 1 to 11 refuse the one exactly as the other.
use Prim.Native.Nat.{ℕ}
use mathlib.Core.List.{List}
use Rattle.table.specs.Bound.{SameButBound}
use Rattle.table.specs.Header.{nodes_of}
use Rattle.table.proofs.Bound.{nodes_same, tested_same}
use Rattle.net.proofs.Bound.{first_same, second_same}
use Rattle.tree.specs.Accept.{Rings, Begins}
use Rattle.tree.proofs.Begins.{begins_map}

module _ {A : Type 0} {s t : List ℕ} (e : SameButBound s t) (refuse : ℕ → ℕ → ℕ → A) where
  rings_same : {rest : A → Type 0} {x : A} → Rings A refuse s (nodes_of s) rest x
      → Rings A refuse t (nodes_of t) rest x
  rings_same p = rw (nodes_same e, first_same e, second_same e) at p

  pub begins_same : {rest rest' : A → Type 0} {x : A} → (rest x → rest' x) → Begins A refuse s rest x
      → Begins A refuse t rest' x
  begins_same f p = tested_same e (λ k r. refuse k r 0) rings_same (begins_map (λ o. o) refuse s (λ _. f) p)
