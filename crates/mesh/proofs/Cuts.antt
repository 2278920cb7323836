-- Where each node's own row is passed over by one other row at the most: what a list of rows without repeats has in
-- common with a cut, bands of rows, and where a band ends.
use Prim.Native.Nat.{ℕ, suc, ◌+◌, ◌<◌}
use mathlib.Core.Path.{◌≡◌, refl, sym, ap, ◌∙◌}
use mathlib.Core.Logic.{◌⊎◌, inl, inr, ◌≢◌}
use mathlib.Core.List.{List}
use native.Mathlib.Omega.{arith}
use native.Mathlib.Decide.{ℕ_discrete, dec_le}
use Rattle.arrays.specs.Members.{Distinct}
use Rattle.net.specs.Graph.{First, Ends, Walk}
use Rattle.net.proofs.Rows.{ends_flip}
use Rattle.mesh.proofs.Parity.{Even, one, one_same, one_other, has, parity_two}
use Rattle.mesh.specs.work.Hung.{AboveIn, self, up, TreeAt}
use Rattle.mesh.proofs.Hung.{
  Node,
  above_trans,
  not_up,
  above_anti,
  root_only,
  root_above,
  above?,
  side,
  side_in,
  side_out,
  up_step,
  Leaves,
  ends_fit,
  Cuts,
}

pub pair_same : (u v : ℕ → ℕ) {r a c x y : ℕ} → Ends u v r a c → Ends u v r x y
    → ((a ≡ x) × (c ≡ y)) ⊎ ((a ≡ y) × (c ≡ x))
pair_same u v (inl e) (inl f) = inl (cc, cc)
pair_same u v (inl e) (inr f) = inr (cc, cc)
pair_same u v (inr e) (inl f) = inr (cc, cc)
pair_same u v (inr e) (inr f) = inl (cc, cc)

module _ {u v : ℕ → ℕ} {k n a : ℕ} {par row place : ℕ → ℕ} {T : TreeAt u v k n a par row place} {over : ℕ → ℕ}
    (C : Cuts T over) where
  abbrev Ab : ℕ → ℕ → Type 0
  Ab = AboveIn a par

  -- a row across is no node's own row
  pub over_extra : (x y : ℕ) → Node n a x → Node n a y → over x ≢ row y
  over_extra x y bx by e = pick (ℕ_discrete x y)
    where
      low : over x < k
      low = rw e (T.row_fits y by.0 by.1)

      L : Leaves T x (over x)
      L = (C.leads x bx.0 bx.1 low).1

      pick : Dec (x ≡ y) → ⊥
      pick (yes q) = (C.leads x bx.0 bx.1 low).0 (e ∙ ap row (sym q))
      pick (no m) = which (pair_same u v L.joins (rw (sym e) at (T.ends y by.0 by.1)))
        where
          which : ((L.p ≡ y) × (L.q ≡ par y)) ⊎ ((L.p ≡ par y) × (L.q ≡ y)) → ⊥
          which (inl f) = L.beside (rw f.1 (up_step T (λ t. m (sym t)) (rw f.0 at L.below)))
          which (inr f) = L.beside (rw f.1 (up by.1 refl (rw f.0 at L.below)))

  -- two rows at the most lead out from below x
  pub cut_even : (x : ℕ) → Node n a x → (r : ℕ) → r < k
      → Even (one (row x) r + one (over x) r + side T x (u r) + side T x (v r))
  cut_even x bx r l = pick (ℕ_discrete r (row x)) (ℕ_discrete r (over x))
    where
      Goal : Type 0
      Goal = Even (one (row x) r + one (over x) r + side T x (u r) + side T x (v r))

      bu : u r < n
      bu = (T.good r l).0

      bv : v r < n
      bv = (T.good r l).1

      -- one end is below x, the other is not
      apart : (p q : ℕ) → Ends u v r p q → Ab x p → ¬ Ab x q → side T x (u r) + side T x (v r) ≡ 1
      apart p q (inl e) h m =
          omega (arith, side_in T {t = x} {x = u r} bu (rw e.0 h), side_out T {t = x} {x = v r} (rw e.1 m))
      apart p q (inr e) h m =
          omega (arith, side_in T {t = x} {x = v r} bv (rw e.1 h), side_out T {t = x} {x = u r} (rw e.0 m))

      rest : r ≢ row x → r ≢ over x → Dec (Ab x (u r)) → Dec (Ab x (v r)) → Goal
      rest m o (yes h) (yes g) =
          record { half = 1; is = omega (arith, one_other m, one_other o, side_in T bu h, side_in T bv g) }
      rest m o (no h) (no g) =
          record { half = 0; is = omega (arith, one_other m, one_other o, side_out T h, side_out T g) }
      rest m o (yes h) (no g) =
          absurd
          (o
          (sym
          (C.only x r bx.0 bx.1 l m
          (record { p = u r; q = v r; joins = inl (refl, refl); below = h; beside = g }))))
      rest m o (no h) (yes g) =
          absurd
          (o
          (sym
          (C.only x r bx.0 bx.1 l m
          (record { p = v r; q = u r; joins = inr (refl, refl); below = g; beside = h }))))

      crossing : r ≡ over x → r ≢ row x → Leaves T x (over x) → Goal
      crossing e m L =
          record {
            half = 1;
            is = omega (arith, one_other m, one_same e, apart L.p L.q (rw e L.joins) L.below L.beside);
          }

      pick : Dec (r ≡ row x) → Dec (r ≡ over x) → Goal
      pick (yes e) (yes f) = absurd (over_extra x x bx bx (sym f ∙ e))
      pick (yes e) (no f) =
          record {
            half = 1;
            is = omega (
              arith,
              one_same e,
              one_other f,
              apart x (par x) (rw e (T.ends x bx.0 bx.1)) self (not_up T bx.0 bx.1),
            );
          }
      pick (no m) (yes f) = crossing f m (C.leads x bx.0 bx.1 (rw f at l)).1
      pick (no m) (no f) = rest m f (above? T x (u r) bu) (above? T x (v r) bv)

  -- the law of parity for a walk that uses no row twice
  pub cut_parity : (x : ℕ) → Node n a x → {p q : ℕ} {rs ns : List ℕ} → Walk u v (First k) p rs ns q → Distinct rs
      → Even (has (row x) rs + has (over x) rs + side T x p + side T x q)
  cut_parity x bx w d = parity_two u v (row x) (over x) (side T x) (cut_even x bx) w d

  -- every row is some node's own, or leads across one
  pub owned : (r : ℕ) → r < k → (x : ℕ) × Node n a x × ((row x ≡ r) ⊎ (over x ≡ r))
  owned r l = pick (above? T (u r) (v r) (T.good r l).1)
    where
      own : (x y : ℕ) → x < n → y < n → Ends u v r x y → ¬ Ab x y → (x : ℕ) × Node n a x × ((row x ≡ r) ⊎ (over x ≡ r))
      own x y bx by e m = (x, node, which (ℕ_discrete r (row x)))
        where
          node : Node n a x
          node = (bx, λ q. m (rw q (root_above T y by)))

          which : Dec (r ≡ row x) → (row x ≡ r) ⊎ (over x ≡ r)
          which (yes f) = inl (sym f)
          which (no f) =
              inr (C.only x r bx node.1 l f (record { p = x; q = y; joins = e; below = self; beside = m }))

      pick : Dec (Ab (u r) (v r)) → (x : ℕ) × Node n a x × ((row x ≡ r) ⊎ (over x ≡ r))
      pick (no m) = own (u r) (v r) (T.good r l).0 (T.good r l).1 (inl (refl, refl)) m
      pick (yes h) =
          own (v r) (u r) (T.good r l).1 (T.good r l).0 (inr (refl, refl))
          (λ g. (T.good r l).2 (above_anti T (T.good r l).1 h g))

  -- what row over z crosses, and what not
  module _ (z : ℕ) (bz : Node n a z) (low : over z < k) where
    pub out : Leaves T z (over z)
    out = (C.leads z bz.0 bz.1 low).1

    pub out_p : out.p < n
    out_p = (ends_fit T low out.joins).0

    pub out_q : out.q < n
    out_q = (ends_fit T low out.joins).1

    -- a node of the band has one of the two ends below it
    pub band_one : (x : ℕ) → Node n a x → over x ≡ over z → ¬ (Ab x out.p × Ab x out.q)
    band_one x bx e h = which (pair_same u v L.joins (rw e out.joins))
      where
        L : Leaves T x (over x)
        L = (C.leads x bx.0 bx.1 (rw e low)).1

        which : ((L.p ≡ out.p) × (L.q ≡ out.q)) ⊎ ((L.p ≡ out.q) × (L.q ≡ out.p)) → ⊥
        which (inl f) = L.beside (rw f.1 h.1)
        which (inr f) = L.beside (rw f.1 h.0)

    -- and a node that has one of them is of the band
    pub band_p : (x : ℕ) → Node n a x → Ab x out.p → ¬ Ab x out.q → over x ≡ over z
    band_p x bx h m =
        C.only x (over z) bx.0 bx.1 low (over_extra z x bz bx)
        (record { p = out.p; q = out.q; joins = out.joins; below = h; beside = m })

    pub band_q : (x : ℕ) → Node n a x → Ab x out.q → ¬ Ab x out.p → over x ≡ over z
    band_q x bx h m =
        C.only x (over z) bx.0 bx.1 low (over_extra z x bz bx)
        (record { p = out.q; q = out.p; joins = ends_flip u v out.joins; below = h; beside = m })

  -- the parent of z is of another band: no node of z's band is above it
  abbrev pub Top : ℕ → Type 0
  Top z = (par z ≡ a) ⊎ (over (par z) ≢ over z)

  pub top : (z : ℕ) → Node n a z → Top z → (x : ℕ) → Node n a x → over x ≡ over z → ¬ Ab x (par z)
  top z bz (inl q) x bx e h = bx.1 (root_only T (rw q at h))
  top z bz (inr m) x bx e h = pick (dec_le (suc (over z)) k) (ℕ_discrete (par z) a)
    where
      inside : (l : over z < k) → par z ≢ a → Dec (Ab (par z) (out z bz l).q) → ⊥
      inside l w (yes g) =
          band_one z bz l x bx e
          (above_trans h (above_trans (up bz.1 refl self) (out z bz l).below), above_trans h g)
      inside l w (no g) =
          m
          (band_p z bz l (par z) (T.fits z bz.0 bz.1, w)
          (above_trans (up bz.1 refl self) (out z bz l).below) g)

      pick : Dec (over z < k) → Dec (par z ≡ a) → ⊥
      pick d (yes q) = bx.1 (root_only T (rw q at h))
      pick (yes l) (no w) = inside l w (above? T (par z) (out z bz l).q (out_q z bz l))
      pick (no l) (no w) =
          let q : x ≡ z =
          omega (arith, e, C.none z bz.0 bz.1 (omega arith), C.none x bx.0 bx.1 (omega (arith, e))) in
          not_up T bz.0 bz.1 (rw q at h)
