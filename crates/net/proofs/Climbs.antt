-- A climb from a node towards the root, and what it has passed: a step up passes one node more. Every climb gets to the
-- root.
use Prim.Native.Nat.{ℕ, zero, suc, ◌<◌}
use mathlib.Core.Path.{◌≡◌, refl, ap}
use mathlib.Core.Logic.{◌⊎◌, inl, inr, ◌≢◌, ⊎_elim}
use native.Mathlib.Omega.{arith}
use native.Mathlib.Decide.{ℕ_discrete}
use Rattle.net.specs.work.Rooted.{Above, self, up, Passed}
use Rattle.net.proofs.Rooted.{above_inv}
use Rattle.net.proofs.Above.{Tree, above_trans, above_chain, above_anti, fits_up, place_up}

module _ {n : ℕ} {par place : ℕ → ℕ} (T : Tree n par place) where
  pub none_passed : {x z : ℕ} → x < n → ¬ Passed par x x z
  none_passed b h = h.not (above_anti T b h.above h.below)

  -- on the climb of x, what is below a's parent is below a, or a's parent
  pub step_split : {a x z : ℕ} → x < n → a ≢ 0 → Above par a x → Above par (par a) z → Above par z x
      → Above par a z ⊎ (z ≡ par a)
  step_split {a} {x} {z} b q l h k = ⊎_elim (λ u. high (above_inv u)) inl (above_chain k l)
    where
      high : (z ≡ a) ⊎ ((a ≢ 0) × Above par z (par a)) → Above par a z ⊎ (z ≡ par a)
      high (inl e) = inl (rw e self)
      high (inr u) = inr (above_anti T (T.fits a (fits_up T b l) q) u.1 h)

  -- a step passes one node more, which is a
  module _ {a x : ℕ} (b : x < n) (l : Above par a x) (q : a ≢ 0) where
    fa : a < n
    fa = fits_up T b l

    pub passed_more : (z : ℕ) → Passed par a x z → Passed par (par a) x z
    passed_more z h = record {
      above = h.above;
      below = above_trans (up q refl self) h.below;
      not = λ e. omega (arith, ap place e, T.earlier a fa q, place_up T (fits_up T b h.above) h.below);
    }

    pub passed_new : Passed par (par a) x a
    passed_new = record { above = l; below = up q refl self; not = λ e. omega (arith, T.earlier a fa q, ap place e) }

    pub passed_inv : (z : ℕ) → Passed par (par a) x z → Passed par a x z ⊎ (z ≡ a)
    passed_inv z h = pick (ℕ_discrete z a) (step_split b q l h.below h.above)
      where
        pick : Dec (z ≡ a) → Above par a z ⊎ (z ≡ par a) → Passed par a x z ⊎ (z ≡ a)
        pick (yes e) s = inr e
        pick (no m) (inl u) = inl (record { above = h.above; below = u; not = m })
        pick (no m) (inr e) = absurd (h.not e)

  -- the root is above every node
  pub root_above : (x : ℕ) → x < n → Above par 0 x
  root_above x b = down (suc (place x)) x b (omega arith)
    where
      down : (m x : ℕ) → x < n → place x < m → Above par 0 x
      down zero x b l = absurd (omega arith)
      down (suc m) x b l = pick (ℕ_discrete x 0) (down m (par x))
        where
          pick : Dec (x ≡ 0) → (par x < n → place (par x) < m → Above par 0 (par x)) → Above par 0 x
          pick (yes e) ih = rw e self
          pick (no q) ih = up q refl (ih (T.fits x b q) (omega (arith, T.earlier x b q)))
