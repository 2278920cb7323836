-- A store of two parts, one after the other, is one store: for the crates that write bytes.
use Prim.Native.Nat.{ℕ, suc, ◌+◌}
use mathlib.Core.Path.{◌≡◌}
use mathlib.Core.List.{List, [], ◌∷◌, ◌++◌}
use native.Mathlib.Omega.{arith}
use lib.ListN.{length, set}
use lib.Seq.{sets}

pub sets_append : (l : List ℕ) (i j : ℕ) (a b : List ℕ) → j ≡ i + length a → sets l i (a ++ b) ≡ sets (sets l i a) j b
sets_append l i j [] b h = let e : i ≡ j = omega arith in rw e
sets_append l i j (x ∷ a) b h = sets_append (set l i x) (suc i) j a b (omega arith)
