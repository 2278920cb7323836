-- Of the numbers below m none has a property that is decided, or there is a least that has it.
use Prim.Native.Nat.{ℕ, zero, suc, ◌<◌}
use mathlib.Core.Path.{◌≡◌}
use mathlib.Core.Logic.{◌⊎◌, inl, inr}
use native.Mathlib.Omega.{arith}
use native.Mathlib.Decide.{ℕ_discrete}

module _ (P : ℕ → Type 0) where
  abbrev None : ℕ → Type 0
  None m = (x : ℕ) → x < m → ¬ P x

  abbrev pub NoneOrLeast : ℕ → Type 0
  NoneOrLeast m = None m ⊎ ((y : ℕ) × (y < m) × P y × None y)

  pub none_or_least : ((x : ℕ) → Dec (P x)) → (m : ℕ) → NoneOrLeast m
  none_or_least d zero = inl (λ x h. absurd (omega arith))
  none_or_least d (suc m) = pick (none_or_least d m) (d m)
    where
      pick : NoneOrLeast m → Dec (P m) → NoneOrLeast (suc m)
      pick (inr t) e = inr (t.0, omega (arith, t.1), t.2, t.3)
      pick (inl n) (yes p) = inr (m, omega arith, p, n)
      pick (inl n) (no q) = inl (λ x h. last x h (ℕ_discrete x m))
        where
          last : (x : ℕ) → x < suc m → Dec (x ≡ m) → ¬ P x
          last x h (yes e) = rw e q
          last x h (no o) = n x (omega arith)
