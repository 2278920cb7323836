-- Laws of being above: it is an order, the nodes above one node are a chain, and places rise downwards.
use Prim.Native.Nat.{ℕ, ◌≤◌, ◌<◌}
use mathlib.Core.Path.{◌≡◌, refl, sym, ◌∙◌}
use mathlib.Core.Logic.{◌⊎◌, inl, inr, ◌≢◌}
use native.Mathlib.Omega.{arith}
use native.Mathlib.Decide.{ℕ_discrete}
use Rattle.net.specs.work.Rooted.{Above, self, up}

-- a parent is a node, and its place is earlier
pub record Tree (n : ℕ) (par place : ℕ → ℕ) : Type 0 where
  pub fits : (x : ℕ) → x < n → x ≢ 0 → par x < n
  pub earlier : (x : ℕ) → x < n → x ≢ 0 → place (par x) < place x
  pub within : (x : ℕ) → x < n → place x < n

pub above_trans : {par : ℕ → ℕ} {a b c : ℕ} → Above par a b → Above par b c → Above par a c
above_trans h self = h
above_trans h (up z e k) = up z e (above_trans h k)

-- two nodes above one are one above the other
pub above_chain : {par : ℕ → ℕ} {a b x : ℕ} → Above par a x → Above par b x → Above par a b ⊎ Above par b a
above_chain self k = inr k
above_chain (up z e h) self = inl (up z e h)
above_chain (up z e h) (up m f k) = above_chain h (rw (sym f ∙ e) at k)

-- along a climb places never rise
pub place_rises : {n : ℕ} {par place : ℕ → ℕ} → ((x : ℕ) → x < n → x ≢ 0 → par x < n)
    → ((x : ℕ) → x < n → x ≢ 0 → place (par x) < place x) → {t x : ℕ} → x < n → Above par t x → place t ≤ place x
place_rises fits earlier b self = omega arith
place_rises fits earlier {t} {x} b (up z e h) =
    omega (arith, rw e at (earlier x b z), place_rises fits earlier (rw e at (fits x b z)) h)

module _ {n : ℕ} {par place : ℕ → ℕ} (T : Tree n par place) where
  pub fits_up : {t x : ℕ} → x < n → Above par t x → t < n
  fits_up b self = b
  fits_up {t} {x} b (up z e h) = fits_up (rw e at (T.fits x b z)) h

  pub place_up : {t x : ℕ} → x < n → Above par t x → place t ≤ place x
  place_up = place_rises T.fits T.earlier

  pub place_less : {t x : ℕ} → x < n → Above par t x → t ≢ x → place t < place x
  place_less b self n = absurd (n refl)
  place_less {t} {x} b (up z e h) n = omega (arith, rw e at (T.earlier x b z), place_up (rw e at (T.fits x b z)) h)

  pub above_anti : {t x : ℕ} → x < n → Above par t x → Above par x t → t ≡ x
  above_anti {t} {x} b h k = pick (ℕ_discrete t x)
    where
      pick : Dec (t ≡ x) → t ≡ x
      pick (yes e) = e
      pick (no m) = absurd (omega (arith, place_less b h m, place_up (fits_up b h) k))
