-- B enters heaviest through its length test alone: two tables equal but for the bytes of B give one outcome under one
-- length test.
use Prim.Native.Nat.{ℕ}
use mathlib.Core.List.{List}
use Rattle.table.specs.Bound.{SameButBound}
use Rattle.table.specs.Header.{nodes_of}
use Rattle.table.proofs.Bound.{nodes_same}
use Rattle.net.proofs.Bound.{first_same, second_same, length_same}
use Rattle.marks.proofs.Weights.{under_same}
use Rattle.tree.proofs.Bound.{begins_same}
use Rattle.heaviest.specs.Heaviest.{heaviest_refusal, Chooses, HeaviestWithin, HeaviestAnswer}

module _ (none : ℕ) (Within : ℕ → Type 0) {s t : List ℕ} (e : SameButBound s t) (marks : List ℕ) where
  chooses_same : {x : HeaviestAnswer} → Chooses none Within s (nodes_of s) marks x
      → Chooses none Within t (nodes_of t) marks x
  chooses_same p = rw (nodes_same e, first_same e, second_same e, length_same e, under_same e marks) at p

  pub heaviest_same : {x : HeaviestAnswer} → HeaviestWithin none Within s marks x → HeaviestWithin none Within t marks x
  heaviest_same = begins_same e heaviest_refusal chooses_same
