-- Two tables equal but for the bytes of B hold one net: each row has the same ends, length and weight.
use mathlib.Core.Path.{◌≡◌}
use mathlib.Core.List.{List}
use Prim.Native.Nat.{ℕ}
use Rattle.table.specs.Bound.{SameButBound}
use Rattle.table.proofs.Bound.{row_same}
use Rattle.net.specs.Net.{first_end, second_end, length_of, weight_of}

module _ {s t : List ℕ} (e : SameButBound s t) where
  pub first_same : first_end s ≡ first_end t
  unfolding first_end
  first_same = λ i r. (row_same e r i).a

  pub second_same : second_end s ≡ second_end t
  unfolding second_end
  second_same = λ i r. (row_same e r i).b

  pub length_same : length_of s ≡ length_of t
  unfolding length_of
  length_same = λ i r. (row_same e r i).length

  pub weight_same : weight_of s ≡ weight_of t
  unfolding weight_of
  weight_same = λ i r. (row_same e r i).weight
