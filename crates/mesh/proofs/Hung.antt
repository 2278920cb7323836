-- A spanning tree hung up at node a: each other node has a parent, earlier in place, and the row to it. What is above a
-- node, decided; rows that lead out from below a node.
use Prim.Native.Nat.{ℕ, zero, suc, ◌+◌, ◌≤◌, ◌<◌}
use mathlib.Core.Path.{◌≡◌, refl, sym, ap, ◌∙◌}
use mathlib.Core.Logic.{◌⊎◌, inl, inr, ◌≢◌}
use native.Mathlib.Omega.{arith}
use native.Mathlib.Decide.{ℕ_discrete, dec_le}
use Rattle.net.specs.Graph.{Ends}
use Rattle.net.proofs.Rows.{ends_left, ends_one}
use Rattle.mesh.specs.work.Hung.{AboveIn, self, up, TreeAt}
use Rattle.mesh.specs.work.Bands.{LeadsOut}
use Rattle.mesh.proofs.Parity.{tick, tick_yes, tick_no}

pub above_inv : {a : ℕ} {par : ℕ → ℕ} {t x : ℕ} → AboveIn a par t x → (t ≡ x) ⊎ ((x ≢ a) × AboveIn a par t (par x))
above_inv self = inl refl
above_inv (up z e h) = inr (z, rw e h)

pub above_trans : {a : ℕ} {par : ℕ → ℕ} {b c d : ℕ} → AboveIn a par b c → AboveIn a par c d → AboveIn a par b d
above_trans h self = h
above_trans h (up z e k) = up z e (above_trans h k)

pub above_chain : {a : ℕ} {par : ℕ → ℕ} {b c x : ℕ} → AboveIn a par b x → AboveIn a par c x
    → AboveIn a par b c ⊎ AboveIn a par c b
above_chain self k = inr k
above_chain (up z e h) self = inl (up z e h)
above_chain (up z e h) (up m f k) = above_chain h (rw (sym f ∙ e) at k)

-- x is a node other than the root
abbrev pub Node : ℕ → ℕ → ℕ → Type 0
Node n a x = (x < n) × (x ≢ a)

module _ {u v : ℕ → ℕ} {k n a : ℕ} {par row place : ℕ → ℕ} (T : TreeAt u v k n a par row place) where
  abbrev Ab : ℕ → ℕ → Type 0
  Ab = AboveIn a par

  pub place_up : {t x : ℕ} → x < n → Ab t x → place t ≤ place x
  place_up b self = omega arith
  place_up {t} {x} b (up z e h) = omega (arith, rw e at (T.earlier x b z), place_up (rw e at (T.fits x b z)) h)

  pub not_up : {t : ℕ} → t < n → t ≢ a → ¬ Ab t (par t)
  not_up b z h = omega (arith, place_up (T.fits _ b z) h, T.earlier _ b z)

  pub above_anti : {t x : ℕ} → x < n → Ab t x → Ab x t → t ≡ x
  above_anti {t} {x} b h g = pick (above_inv h)
    where
      pick : (t ≡ x) ⊎ ((x ≢ a) × Ab t (par x)) → t ≡ x
      pick (inl e) = e
      pick (inr w) = absurd (not_up b w.0 (above_trans g w.1))

  pub root_only : {t : ℕ} → Ab t a → t ≡ a
  root_only h = pick (above_inv h)
    where
      pick : {t : ℕ} → (t ≡ a) ⊎ ((a ≢ a) × Ab t (par a)) → t ≡ a
      pick (inl e) = e
      pick (inr w) = absurd (w.0 refl)

  pub root_above : (x : ℕ) → x < n → Ab a x
  root_above x b = down (suc (place x)) x b (omega arith)
    where
      down : (m x : ℕ) → x < n → place x < m → Ab a x
      down zero x b l = absurd (omega arith)
      down (suc m) x b l = pick (ℕ_discrete x a) (down m (par x))
        where
          pick : Dec (x ≡ a) → (par x < n → place (par x) < m → Ab a (par x)) → Ab a x
          pick (yes e) ih = rw e self
          pick (no q) ih = up q refl (ih (T.fits x b q) (omega (arith, T.earlier x b q)))

  -- decided
  abbrev pub Low : ℕ → ℕ → Type 0
  Low t x = (x < n) × Ab t x

  pub above? : (t x : ℕ) → x < n → Dec (Ab t x)
  above? t x b = down (suc (place x)) x b (omega arith)
    where
      down : (m x : ℕ) → x < n → place x < m → Dec (Ab t x)
      down zero x b l = absurd (omega arith)
      down (suc m) x b l = pick (ℕ_discrete t x) (ℕ_discrete x a) (down m (par x))
        where
          neither : t ≢ x → ¬ ((x ≢ a) × Ab t (par x)) → ¬ Ab t x
          neither n m h = which (above_inv h)
            where
              which : (t ≡ x) ⊎ ((x ≢ a) × Ab t (par x)) → ⊥
              which (inl e) = n e
              which (inr w) = m w

          pick : Dec (t ≡ x) → Dec (x ≡ a) → (par x < n → place (par x) < m → Dec (Ab t (par x))) → Dec (Ab t x)
          pick (yes e) d ih = yes (rw e self)
          pick (no p) (yes e) ih = no (neither p (λ w. w.0 e))
          pick (no p) (no q) ih = last (ih (T.fits x b q) (omega (arith, T.earlier x b q)))
            where
              last : Dec (Ab t (par x)) → Dec (Ab t x)
              last (yes h) = yes (up q refl h)
              last (no m) = no (neither p (λ w. m w.1))

  low? : (t x : ℕ) → Dec (Low t x)
  low? t x = pick (dec_le (suc x) n)
    where
      then : x < n → Dec (Ab t x) → Dec (Low t x)
      then b (yes h) = yes (b, h)
      then b (no m) = no (λ w. m w.1)

      pick : Dec (x < n) → Dec (Low t x)
      pick (yes b) = then b (above? t x b)
      pick (no m) = no (λ w. m w.0)

  -- 1 for the nodes below t, 0 for the others
  pub side : ℕ → ℕ → ℕ
  side t x = tick (low? t x)

  pub side_in : {t x : ℕ} → x < n → Ab t x → side t x ≡ 1
  unfolding side
  side_in {t} {x} b h = tick_yes (low? t x) (b, h)

  pub side_self : {t : ℕ} → t < n → side t t ≡ 1
  side_self b = side_in b self

  pub side_out : {t x : ℕ} → ¬ Ab t x → side t x ≡ 0
  unfolding side
  side_out {t} {x} m = tick_no (low? t x) (λ w. m w.1)

  pub side_same : {t x y : ℕ} → x < n → y < n → (Ab t x → Ab t y) → (Ab t y → Ab t x) → side t x ≡ side t y
  side_same {t} {x} {y} b c f g = pick (above? t x b)
    where
      pick : Dec (Ab t x) → side t x ≡ side t y
      pick (yes h) = side_in b h ∙ sym (side_in c (f h))
      pick (no m) = side_out m ∙ sym (side_out (λ h. m (g h)))

  pub side_root : {t : ℕ} → t ≢ a → side t a ≡ 0
  side_root z = side_out (λ h. z (root_only h))

  -- a step up passes the node alone
  pub up_step : {t x : ℕ} → x ≢ t → Ab t x → Ab t (par x)
  up_step {t} {x} m h = pick (above_inv h)
    where
      pick : (t ≡ x) ⊎ ((x ≢ a) × Ab t (par x)) → Ab t (par x)
      pick (inl e) = absurd (m (sym e))
      pick (inr w) = w.1

  pub side_step : {t x : ℕ} → x < n → x ≢ a → x ≢ t → side t x ≡ side t (par x)
  side_step b z m = side_same b (T.fits _ b z) (up_step m) (λ h. up z refl h)

  pub row_inj : {x y : ℕ} → x < n → x ≢ a → y < n → y ≢ a → row x ≡ row y → x ≡ y
  row_inj {x} {y} b z c w e =
      pick (ends_one u v (T.ends x b z) (ends_left u v (rw (sym e) at (T.ends y c w))))
      (ends_one u v (T.ends y c w) (ends_left u v (rw e at (T.ends x b z))))
    where
      pick : (x ≡ y) ⊎ (par x ≡ y) → (y ≡ x) ⊎ (par y ≡ x) → x ≡ y
      pick (inl p) q = p
      pick (inr p) (inl q) = sym q
      pick (inr p) (inr q) = absurd (omega (arith, T.earlier x b z, T.earlier y c w, ap place p, ap place q))

  -- row r leads out from below t
  abbrev pub Leaves : ℕ → ℕ → Type 0
  Leaves t r = LeadsOut u v a par t r

  pub ends_fit : {r x y : ℕ} → r < k → Ends u v r x y → (x < n) × (y < n)
  ends_fit {r} l (inl e) = (rw e.0 at (T.good r l).0, rw e.1 at (T.good r l).1)
  ends_fit {r} l (inr e) = (rw e.1 at (T.good r l).1, rw e.0 at (T.good r l).0)

  -- over x is the one row, other than x's own, that leads out from below x; k + x where there is none
  pub record Cuts (over : ℕ → ℕ) : Type 0 where
    pub only : (x r : ℕ) → x < n → x ≢ a → r < k → r ≢ row x → Leaves x r → over x ≡ r
    pub leads : (x : ℕ) → x < n → x ≢ a → over x < k → (over x ≢ row x) × Leaves x (over x)
    pub none : (x : ℕ) → x < n → x ≢ a → k ≤ over x → over x ≡ k + x
