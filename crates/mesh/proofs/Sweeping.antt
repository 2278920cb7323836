-- The sweep from the root: what its loop keeps, and that no sum in it is too large for 16 bits; and the first node with
-- the greatest value.
use Prim.Native.Nat.{ℕ, ◌+◌, ◌-◌, ◌*◌, ◌≤◌, ◌<◌}
use mathlib.Core.Path.{◌≡◌, sym, ap, ◌∙◌}
use mathlib.Core.Logic.{◌⊎◌, inl, inr, ◌≢◌}
use mathlib.Core.List.{List}
use native.Mathlib.Omega.{arith}
use native.Mathlib.Decide.{ℕ_discrete}
use lib.ListN.{length, set, length-set}
use lib.Seq.{get_or-set_same, get_or-set_other}
use Rattle.arrays.specs.At.{at}
use Rattle.arrays.specs.work.Filled.{Filled}
use Rattle.net.specs.Count.{Count}
use Rattle.net.proofs.Counts.{count_below}
use Rattle.mesh.specs.work.Hung.{InOrder}
use Rattle.mesh.specs.work.Bands.{BandSizes}
use Rattle.mesh.specs.work.Sweep.{LongerWay, SweptOn, Law, Computed, Farthest}
use Rattle.mesh.proofs.Sizing.{Of}

-- The greatest

pub farthest_one : (d : List ℕ) → Farthest 1 d 0
farthest_one d =
    record {
      within = omega arith;
      most = λ y b. let e : y ≡ 0 = omega arith in rw e (omega arith);
      first = λ y b. absurd (omega arith);
    }

module _ {d : List ℕ} {x z : ℕ} (h : Farthest x d z) where
  pub farthest_keep : at d x ≤ at d z → Farthest (x + 1) d z
  farthest_keep l =
      record { within = omega (arith, h.within); most = λ y b. pick y b (ℕ_discrete y x); first = h.first }
    where
      pick : (y : ℕ) → y < x + 1 → Dec (y ≡ x) → at d y ≤ at d z
      pick y b (yes e) = rw e l
      pick y b (no m) = h.most y (omega arith)

  pub farthest_more : at d z < at d x → Farthest (x + 1) d x
  farthest_more l =
      record {
        within = omega arith;
        most = λ y b. pick y b (ℕ_discrete y x);
        first = λ y b. omega (arith, h.most y b);
      }
    where
      pick : (y : ℕ) → y < x + 1 → Dec (y ≡ x) → at d y ≤ at d x
      pick y b (yes e) = rw e (omega arith)
      pick y b (no m) = omega (arith, h.most y (omega arith))

-- The sweep

-- how far the values of the node at place i go
pub record Fits (most base climb : List ℕ) (z i : ℕ) : Type 0 where
  pub climbs : at climb z ≤ i
  pub bases : at base z ≤ 256 * (i - 1)
  pub mosts : at most z ≤ 256 * i

-- the places below j have their values
pub record Sweeping (n : ℕ) (par order over : List ℕ) (j : ℕ) (most base climb : List ℕ) : Type 0 where
  pub tree : InOrder n par order
  pub some : 0 < j
  pub within : j ≤ n
  pub long : (length most ≡ 256) × (length base ≡ 256) × (length climb ≡ 256)
  pub start : at most (at order 0) ≡ 0
  pub done : (i : ℕ) → 0 < i → i < j → Law n par over most base climb (at order i)
  pub fits : (i : ℕ) → i < j → Fits most base climb (at order i) i

pub sweeping_start : {n : ℕ} {par order over most base climb : List ℕ} → InOrder n par order → Filled 256 0 most
    → Filled 256 0 base → Filled 256 0 climb → Sweeping n par order over 1 most base climb
sweeping_start {n} {par} {order} {over} {most} {base} {climb} h m b c =
    record {
      tree = h;
      some = omega arith;
      within = h.some;
      long = (m.long, b.long, c.long);
      start = m.each (at order 0) low;
      done = λ i p q. absurd (omega arith);
      fits = λ i q.
          let e : i ≡ 0 = omega arith in
          rw e
          (record {
            climbs = rw (c.each (at order 0) low) (omega arith);
            bases = rw (b.each (at order 0) low) (omega arith);
            mosts = rw (m.each (at order 0) low) (omega arith);
          });
    }
  where
    low : at order 0 < 256
    low = omega (arith, h.within 0 h.some, h.few)

module _ {n : ℕ} {par order over : List ℕ} {j : ℕ} {most base climb : List ℕ}
    (s : Sweeping n par order over j most base climb) (l : j < n) (z p : ℕ) (ez : z ≡ at order j)
    (ep : p ≡ at par z) where
  pub z_low : z < n
  z_low = rw ez (s.tree.within j l)

  pub p_low : p < n
  p_low = rw ep (s.tree.fits z z_low)

  -- a parent's place is earlier
  par_earlier : (i : ℕ) → 0 < i → i < n
      → (s.tree.place (at par (at order i)) < i)
      × (at order (s.tree.place (at par (at order i))) ≡ at par (at order i))
  par_earlier i h b = (
    s.tree.earlier i h b,
    (s.tree.here (at par (at order i)) (s.tree.fits (at order i) (s.tree.within i b))).1,
  )

  -- the parent's place
  abbrev q : ℕ
  q = s.tree.place (at par (at order j))

  pq : (q < j) × (at order q ≡ p)
  pq = let t = par_earlier j s.some l in (t.0, t.1 ∙ ap (at par) (sym ez) ∙ sym ep)

  pub parent_fits : Fits most base climb p (j - 1)
  parent_fits =
      let t = pq in
      let f : Fits most base climb p q = rw t.1 at (s.fits q t.0) in
      record {
        climbs = omega (arith, f.climbs, t.0);
        bases = omega (arith, f.bases, t.0);
        mosts = omega (arith, f.mosts, t.0);
      }

  module _ (b i : ℕ) (st : SweptOn (at over p) (at over z) (at most p) (at base p) (at climb p) b i) where
    pub step_fits : (b ≤ 256 * (j - 1)) × (0 < i) × (i ≤ j)
    step_fits = pick (ℕ_discrete (at over p) (at over z))
      where
        pick : Dec (at over p ≡ at over z) → (b ≤ 256 * (j - 1)) × (0 < i) × (i ≤ j)
        pick (yes e) =
            let f = parent_fits in
            let t = st.again e in
            (omega (arith, t.0, f.bases, s.some), omega (arith, t.1), omega (arith, t.1, f.climbs, s.some))
        pick (no e) =
            let f = parent_fits in
            let t = st.first e in
            (omega (arith, t.0, f.mosts, s.some), omega (arith, t.1), omega (arith, t.1, s.some))

    pub many_fits : (m : ℕ) → Count (Of over (at over z) n) m → m ≤ 256
    many_fits m cm = omega (arith, count_below n (λ x h. h.0) cm, s.tree.few)

    -- the size of z's band
    pub many_of : {size : List ℕ} {w : ℕ} → BandSizes n over size → w ≡ at over z
        → Count (Of over (at over z) n) (at size w)
    many_of q e = rw e (q.each (at over z) (q.fits z z_low))

    module _ (m d : ℕ) (cm : Count (Of over (at over z) n) m) (bd : LongerWay b i m d) where
      d_fits : d ≤ 256 * j
      d_fits = pick bd
        where
          pick : ((m + 1 ≤ i + i) × (d ≡ b + i)) ⊎ ((i + i ≤ m + 1) × (d + i ≡ b + m + 1)) → d ≤ 256 * j
          pick (inl h) =
              omega (
                arith,
                h.0,
                h.1,
                step_fits.0,
                step_fits.1,
                step_fits.2,
                many_fits m cm,
                s.tree.few,
                s.some,
                l,
              )
          pick (inr h) =
              omega (
                arith,
                h.0,
                h.1,
                step_fits.0,
                step_fits.1,
                step_fits.2,
                many_fits m cm,
                s.tree.few,
                s.some,
                l,
              )

      abbrev Mo : List ℕ
      Mo = set most z d

      abbrev Ba : List ℕ
      Ba = set base z b

      abbrev Cl : List ℕ
      Cl = set climb z i

      zb : z < 256
      zb = omega (arith, z_low, s.tree.few)

      mn : at Mo z ≡ d
      mn = get_or-set_same most z d 0 (omega (arith, zb, s.long.0))

      bn : at Ba z ≡ b
      bn = get_or-set_same base z b 0 (omega (arith, zb, s.long.1))

      cn : at Cl z ≡ i
      cn = get_or-set_same climb z i 0 (omega (arith, zb, s.long.2))

      mo : (y : ℕ) → y ≢ z → at Mo y ≡ at most y
      mo y o = get_or-set_other most z y d 0 o

      bo : (y : ℕ) → y ≢ z → at Ba y ≡ at base y
      bo y o = get_or-set_other base z y b 0 o

      co : (y : ℕ) → y ≢ z → at Cl y ≡ at climb y
      co y o = get_or-set_other climb z y i 0 o

      -- earlier nodes are not z
      earlier : (k : ℕ) → k < j → at order k ≢ z
      earlier k h e = omega (arith, s.tree.back k (omega arith), s.tree.back j l, ap s.tree.place (e ∙ ez))

      p_other : p ≢ z
      p_other e = earlier q pq.0 (pq.1 ∙ e)

      par_other : (k : ℕ) → 0 < k → k < j → at par (at order k) ≢ z
      par_other k h t e =
          let w = par_earlier k h (omega arith) in
          earlier (s.tree.place (at par (at order k))) (omega (arith, w.0)) (w.1 ∙ e)

      keep : (y : ℕ) → y ≢ z → at par y ≢ z → Law n par over most base climb y → Law n par over Mo Ba Cl y
      keep y o r w =
          record {
            m = w.m;
            many = w.many;
            step = rw (mo _ r, bo _ r, co _ r, bo y o, co y o) w.step;
            best = rw (bo y o, co y o, mo y o) w.best;
          }

      new : Law n par over Mo Ba Cl z
      new =
          let r : at par z ≢ z = rw ep at p_other in
          record { m = m; many = cm; step = rw (mo _ r, bo _ r, co _ r, bn, cn, ← ep) st; best = rw (bn, cn, mn) bd }

      pub sweeping_next : Sweeping n par order over (j + 1) Mo Ba Cl
      sweeping_next = record {
        tree = s.tree;
        some = omega arith;
        within = omega arith;
        long = (length-set most z d ∙ s.long.0, length-set base z b ∙ s.long.1, length-set climb z i ∙ s.long.2);
        start = mo (at order 0) (earlier 0 s.some) ∙ s.start;
        done = λ k h t. done k h t (ℕ_discrete k j);
        fits = λ k t. fits k t (ℕ_discrete k j);
      }
        where
          done : (k : ℕ) → 0 < k → k < j + 1 → Dec (k ≡ j) → Law n par over Mo Ba Cl (at order k)
          done k h t (yes e) = rw (e, ← ez) new
          done k h t (no o) =
              keep (at order k) (earlier k (omega arith)) (par_other k h (omega arith)) (s.done k h (omega arith))

          fits : (k : ℕ) → k < j + 1 → Dec (k ≡ j) → Fits Mo Ba Cl (at order k) k
          fits k t (yes e) =
              rw (e, ← ez)
              (record { climbs = rw cn step_fits.2; bases = rw bn step_fits.0; mosts = rw mn d_fits })
          fits k t (no o) =
              let w = earlier k (omega arith) in
              let f = s.fits k (omega arith) in
              record {
                climbs = rw (co _ w) f.climbs;
                bases = rw (bo _ w) f.bases;
                mosts = rw (mo _ w) f.mosts;
              }

pub sweeping_end : {n : ℕ} {par order over : List ℕ} {j : ℕ} {most base climb : List ℕ}
    → Sweeping n par order over j most base climb → ¬ (j < n)
    → Computed n (at order 0) par over most base climb × (length most ≡ 256)
sweeping_end {n = n} {par} {order} {over} {j} {most} {base} {climb} s q = (
  record { start = s.start; law = law },
  s.long.0,
)
  where
    law : (z : ℕ) → z < n → z ≢ at order 0 → Law n par over most base climb z
    law z b m =
        let h = s.tree.here z b in
        let p : s.tree.place z ≢ 0 = λ e. m (sym h.1 ∙ ap (at order) e) in
        rw h.1 at (s.done (s.tree.place z) (omega arith) (omega (arith, h.0)))
