-- Two nodes as one number, 65,536 times the first and the second. Nodes are below 65,536, so two arcs have one key
-- exactly if they have the same nodes, and a key turned round is the opposite's.
use Prim.Native.Nat.{ℕ, ◌/◌, ◌%◌, ◌<◌}
use mathlib.Core.Path.{◌≡◌, sym}
use native.Mathlib.Omega.{arith}
use Rattle.arcs.specs.Arcs.{Arcs}
use Rattle.arcs.specs.work.Chunk.{arc_key, back_key, turned_key, NodesFit}

-- as the code has them
module _ (A : Arcs) (j x : ℕ) (e : x ≡ arc_key A j) (b : A.to j < 65536) where
  pub key_from : x / 65536 ≡ A.from j
  unfolding arc_key
  key_from = omega (arith, e, b)

  pub key_to : x % 65536 ≡ A.to j
  unfolding arc_key
  key_to = omega (arith, e, b)

  pub back_is : {y : ℕ} → y ≡ turned_key x → y ≡ back_key A j
  unfolding back_key
  back_is q = omega (arith, key_from, key_to, q)

-- as the document has them
module _ (A B : Arcs) (f : NodesFit A) (g : NodesFit B) (i j : ℕ) (a : i < A.count) (b : j < B.count) where
  pub same_from : arc_key A i ≡ arc_key B j → A.from i ≡ B.from j
  unfolding arc_key
  same_from e = omega (arith, e, f.to_high i a, g.to_high j b)

  pub same_to : arc_key A i ≡ arc_key B j → A.to i ≡ B.to j
  unfolding arc_key
  same_to e = omega (arith, e, f.to_high i a, g.to_high j b)

  pub back_from : arc_key A i ≡ back_key B j → A.from i ≡ B.to j
  unfolding arc_key back_key
  back_from e = omega (arith, e, f.to_high i a, g.from_high j b)

  pub back_to : arc_key A i ≡ back_key B j → A.to i ≡ B.from j
  unfolding arc_key back_key
  back_to e = omega (arith, e, f.to_high i a, g.from_high j b)

  pub flip : arc_key A i ≡ back_key B j → back_key A i ≡ arc_key B j
  unfolding arc_key back_key
  flip e = omega (arith, back_from e, back_to e)

module _ (A B : Arcs) (i j : ℕ) where
  pub same_key : A.from i ≡ B.from j → A.to i ≡ B.to j → arc_key A i ≡ arc_key B j
  unfolding arc_key
  same_key a b = omega (arith, a, b)

  pub back_key_lem : A.from i ≡ B.to j → A.to i ≡ B.from j → arc_key A i ≡ back_key B j
  unfolding arc_key back_key
  back_key_lem a b = omega (arith, a, b)

pub loop_key : (A : Arcs) (i : ℕ) → A.from i ≡ A.to i → arc_key A i ≡ back_key A i
loop_key A i e = back_key_lem A A i i e (sym e)
