-- No two rows of an accepted table join the same two nodes, either way round: the earlier one would close a ring with
-- the later.
use Prim.Native.Nat.{ℕ, ◌<◌}
use mathlib.Core.Path.{◌≡◌, sym}
use mathlib.Core.Logic.{inl, inr}
use mathlib.Core.List.{[], ◌∷◌}
use native.Mathlib.Omega.{arith}
use native.Mathlib.Decide.{dec_lt}
use Rattle.net.specs.Graph.{Ends, stop, go}
use Rattle.net.specs.work.Forest.{Forest}

module _ (u v : ℕ → ℕ) (m : ℕ) (forest : Forest u v m) where
  later : (r q : ℕ) → r < q → q < m → Ends u v r (u q) (v q) → ⊥
  later r q l h e = forest q h (r ∷ [], v q ∷ [], go l e stop)

  -- the same ends the same way round, or the other: the same row
  pub rows_apart : (r q : ℕ) → r < m → q < m → Ends u v r (u q) (v q) → r ≡ q
  rows_apart r q h k e = pick (dec_lt r q) (dec_lt q r)
    where
      turned : Ends u v r (u q) (v q) → Ends u v q (u r) (v r)
      turned (inl (a, b)) = inl (sym a, sym b)
      turned (inr (a, b)) = inr (sym b, sym a)

      pick : Dec (r < q) → Dec (q < r) → r ≡ q
      pick (yes l) d = absurd (later r q l k e)
      pick (no l) (yes g) = absurd (later q r g h (turned e))
      pick (no l) (no g) = omega arith
