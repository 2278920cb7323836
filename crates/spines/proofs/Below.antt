-- Children by an array of parents, and what is below a node: by climbing from it, or by going down from child to child.
use Prim.Native.Nat.{ℕ, ◌<◌}
use mathlib.Core.Path.{◌≡◌, refl, sym, ◌∙◌}
use mathlib.Core.Logic.{◌≢◌, ⊎_elim}
use native.Mathlib.Omega.{arith}
use native.Mathlib.Decide.{ℕ_discrete}
use Rattle.net.specs.work.Rooted.{Above, self, up}
use Rattle.net.proofs.Rooted.{above_inv}
use Rattle.net.proofs.Above.{Tree, above_trans, above_chain, place_up}
use Rattle.spines.specs.Spine.{Under, here, step, Leaf, LeafUnder}
use Rattle.spines.specs.work.Parents.{Child}

pub under_above : {n : ℕ} {par : ℕ → ℕ} {t x : ℕ} → Under (Child n par) n t x → Above par t x
under_above here = self
under_above (step k h) = up k.low k.of (under_above h)

pub leaf_above : {n : ℕ} {par : ℕ → ℕ} {t x : ℕ} → LeafUnder (Child n par) n t x → Above par t x
leaf_above h = under_above h.under

module _ {n : ℕ} {par place : ℕ → ℕ} (T : Tree n par place) where
  pub above_under : {t x : ℕ} → x < n → Above par t x → Under (Child n par) n t x
  above_under b self = here
  above_under {t} {x} b (up z e h) =
      step (record { fits = b; low = z; of = e }) (above_under (rw e at (T.fits x b z)) h)

  pub leaf_under : {t x : ℕ} → Leaf (Child n par) n x → Above par t x → LeafUnder (Child n par) n t x
  leaf_under l h = record { leaf = l; under = above_under l.fits h }

  pub child_fits : {p c : ℕ} → Child n par p c → p < n
  child_fits {p} {c} k = rw k.of at (T.fits c k.fits k.low)

  pub child_later : {p c : ℕ} → Child n par p c → place p < place c
  child_later {p} {c} k = rw k.of at (T.earlier c k.fits k.low)

  pub child_below : {p c x : ℕ} → Child n par p c → Above par c x → Above par p x
  child_below k h = above_trans (up k.low k.of self) h

  -- where p is above x and not x, one child of p is above x
  abbrev pub Via : ℕ → ℕ → Type 0
  Via p x = (c : ℕ) × Child n par p c × Above par c x

  pub via : {p x : ℕ} → x < n → Above par p x → p ≢ x → Via p x
  via b self m = absurd (m refl)
  via {p} {x} b (up {y = y} z e h) m = pick (ℕ_discrete p y) (via (rw e at (T.fits x b z)) h)
    where
      pick : Dec (p ≡ y) → (p ≢ y → Via p y) → Via p x
      pick (yes q) ih = (x, record { fits = b; low = z; of = e ∙ sym q }, self)
      pick (no q) ih = let t = ih q in (t.0, t.1, up z e t.2)

  pub via_one : {p c d x : ℕ} → Child n par p c → Child n par p d → Above par c x → Above par d x → c ≡ d
  via_one {p} {c} {d} k l h j = ⊎_elim (λ a. side k l a) (λ a. sym (side l k a)) (above_chain h j)
    where
      side : {c d : ℕ} → Child n par p c → Child n par p d → Above par c d → c ≡ d
      side {c} {d} k l a =
          ⊎_elim (λ e. e) (λ t. absurd (omega (arith, child_later k, place_up T (child_fits l) (rw l.of at t.1))))
          (above_inv a)
