-- The upper bound: no simple path from the root to z has more rows than D z.
use Prim.Native.Nat.{ℕ, zero, suc, ◌+◌, ◌≤◌, ◌<◌}
use mathlib.Core.Path.{◌≡◌, refl, sym, ap, ◌∙◌}
use mathlib.Core.Logic.{◌⊎◌, inl, inr, ◌≢◌}
use mathlib.Core.List.{List, [], ◌∷◌}
use native.Mathlib.Omega.{arith}
use native.Mathlib.Decide.{ℕ_discrete}
use lib.ListN.{length}
use Rattle.arrays.specs.Members.{In, at, past, Distinct}
use Rattle.net.specs.Count.{Count}
use Rattle.net.specs.Graph.{First, Walk}
use Rattle.arrays.proofs.Members.{in?}
use Rattle.net.proofs.Counts.{distinct_le, count_one, count_add}
use Rattle.net.proofs.RingExactly.{once}
use Rattle.mesh.proofs.Parity.{Even, has, has_yes, has_no, has_in, has_low, has_same}
use Rattle.mesh.proofs.Parts.{Parted, parted, each, each_length, in_each, each_in, count_rest}
use Rattle.mesh.specs.work.Hung.{AboveIn, self, TreeAt}
use Rattle.mesh.proofs.Hung.{
  Node,
  above_inv,
  not_up,
  above?,
  side,
  side_in,
  side_out,
  side_root,
  side_step,
  row_inj,
  Cuts,
}
use Rattle.mesh.proofs.Cuts.{over_extra, cut_parity, owned, Top, top}
use Rattle.mesh.proofs.Rings.{Band, not_full, walk_each}

module _ {u v : ℕ → ℕ} {k n a : ℕ} {par row place : ℕ → ℕ} {T : TreeAt u v k n a par row place} {over : ℕ → ℕ}
    (C : Cuts T over) where
  abbrev Ab : ℕ → ℕ → Type 0
  Ab = AboveIn a par

  -- rows that cross each cut as a path from the root to z does, and that have no ring whole
  pub record Like (z : ℕ) (S : List ℕ) : Type 0 where
    pub single : Distinct S
    pub rows : (r : ℕ) → In r S → r < k
    pub even : (x : ℕ) → Node n a x → Even (has (row x) S + has (over x) S + side T x z)
    pub broken : (x : ℕ) → Node n a x → In (over x) S → ¬ ((w : ℕ) → Band C x w → In (row w) S)

  -- the same but for the band of z, of which there is nothing
  pub record Past (z : ℕ) (S : List ℕ) : Type 0 where
    pub single : Distinct S
    pub rows : (r : ℕ) → In r S → r < k
    pub even : (x : ℕ) → Node n a x → over x ≢ over z → Even (has (row x) S + has (over x) S + side T x z)
    pub broken : (x : ℕ) → Node n a x → In (over x) S → ¬ ((w : ℕ) → Band C x w → In (row w) S)
    pub none : (w : ℕ) → Band C z w → ¬ In (row w) S
    pub not : ¬ In (over z) S

  -- a simple path is one
  pub like : {z : ℕ} {rs ns : List ℕ} → Walk u v (First k) a rs ns z → Distinct (a ∷ ns) → Like z rs
  like {z} {rs} w d =
      record {
        single = o;
        rows = λ r i. walk_each u v w r i;
        even = λ x bx.
            let e = cut_parity C x bx w o in
            record { half = e.half; is = omega (arith, e.is, side_root T {t = x} bx.1) };
        broken = λ x bx i f. not_full C w d x bx i f;
      }
    where
      o : Distinct rs
      o = once u v w d

  -- at the root there are none
  pub like_root : (S : List ℕ) → Like a S → length S ≡ 0
  like_root [] h = refl
  like_root (r ∷ S) h = pick (owned C r (h.rows r (at refl)))
    where
      even : (x : ℕ) → Node n a x → has (row x) (r ∷ S) ≡ has (over x) (r ∷ S)
      even x bx =
          let e = h.even x bx in
          omega (arith, e.is, side_root T {t = x} bx.1, has_low (row x) (r ∷ S), has_low (over x) (r ∷ S))

      full : (x : ℕ) → Node n a x → In (over x) (r ∷ S) → ⊥
      full x bx i =
          h.broken x bx i
          (λ w g. has_in (omega (arith, even w g.0, has_yes {r = over w} {l = r ∷ S} (rw g.1 i))))

      pick : (x : ℕ) × Node n a x × ((row x ≡ r) ⊎ (over x ≡ r)) → length (r ∷ S) ≡ 0
      pick t = which t.2
        where
          which : (row t.0 ≡ r) ⊎ (over t.0 ≡ r) → length (r ∷ S) ≡ 0
          which (inl e) =
              absurd
              (full t.0 t.1
              (has_in (omega (arith, even t.0 t.1, has_yes {r = row t.0} {l = r ∷ S} (at e)))))
          which (inr e) = absurd (full t.0 t.1 (at e))

  -- what is left without the band of z is like a path to the parent, where the band ends there
  pub past_top : (z : ℕ) → Node n a z → Top C z → (S : List ℕ) → Past z S → Like (par z) S
  past_top z bz t S h =
      record {
        single = h.single;
        rows = h.rows;
        broken = h.broken;
        even = λ x bx. pick x bx (ℕ_discrete (over x) (over z));
      }
    where
      pick : (x : ℕ) → Node n a x → Dec (over x ≡ over z) → Even (has (row x) S + has (over x) S + side T x (par z))
      pick x bx (yes e) =
          let no_over : ¬ In (over x) S = rw e h.not in
          record {
            half = 0;
            is = omega (arith, has_no (h.none x (bx, e)), has_no no_over, side_out T (top C z bz t x bx e));
          }
      pick x bx (no m) =
          let e = h.even x bx m in
          let s : side T x z ≡ side T x (par z) = side_step T bz.0 bz.1 (λ q. m (ap over (sym q))) in
          record { half = e.half; is = omega (arith, e.is, s) }

  -- and where it goes on, it is what is left of the parent's
  pub past_again : (z : ℕ) → Node n a z → over (par z) ≡ over z → (S : List ℕ) → Past z S → Past (par z) S
  past_again z bz q S h =
      record {
        single = h.single;
        rows = h.rows;
        broken = h.broken;
        even = even;
        none = λ w g. h.none w (g.0, g.1 ∙ q);
        not = rw q h.not;
      }
    where
      even : (x : ℕ) → Node n a x → over x ≢ over (par z) → Even (has (row x) S + has (over x) S + side T x (par z))
      even x bx m =
          let o : over x ≢ over z = λ e. m (e ∙ sym q) in
          let e = h.even x bx o in
          let s : side T x z ≡ side T x (par z) = side_step T bz.0 bz.1 (λ q. o (ap over (sym q))) in
          record { half = e.half; is = omega (arith, e.is, s) }

  -- the nodes of z's band that are above z
  abbrev pub Climbs : ℕ → ℕ → Type 0
  Climbs z x = Band C z x × (side T x z ≡ 1)

  -- one band: one way round it or the other
  pub around : (z : ℕ) → Node n a z → {b i m : ℕ} → ((S : List ℕ) → Past z S → length S ≤ b) → Count (Climbs z) i
      → Count (Band C z) m → (S : List ℕ) → Like z S → (length S ≤ b + i) ⊎ (length S + i ≤ b + m + 1)
  around z bz {b} {i} {m} base ups all S h = pick (in? (over z) S)
    where
      ring : List ℕ
      ring = over z ∷ each row all.list

      own_in : (w : ℕ) → Band C z w → In (row w) (over z ∷ each row all.list)
      own_in w g = past (in_each row all.list (all.all w g))

      ring_in : (r : ℕ) → In r (over z ∷ each row all.list) → (r ≡ over z) ⊎ ((w : ℕ) × Band C z w × (row w ≡ r))
      ring_in r (at e) = inl e
      ring_in r (past j) = let t = each_in row all.list j in inr (t.0, all.only t.0 t.1, t.2)

      P : Parted (λ r. In r (over z ∷ each row all.list)) S
      P = parted (λ r. in? r (over z ∷ each row all.list)) S

      -- a row of another band stays
      other_own : (x : ℕ) → Node n a x → over x ≢ over z → ¬ In (row x) (over z ∷ each row all.list)
      other_own x bx o j = which (ring_in (row x) j)
        where
          which : (row x ≡ over z) ⊎ ((w : ℕ) × Band C z w × (row w ≡ row x)) → ⊥
          which (inl e) = over_extra C z x bz bx (sym e)
          which (inr w) = o (ap over (sym (row_inj T w.1.0.0 w.1.0.1 bx.0 bx.1 w.2)) ∙ w.1.1)

      other_over : (x : ℕ) → Node n a x → over x ≢ over z → ¬ In (over x) (over z ∷ each row all.list)
      other_over x bx o j = which (ring_in (over x) j)
        where
          which : (over x ≡ over z) ⊎ ((w : ℕ) × Band C z w × (row w ≡ over x)) → ⊥
          which (inl e) = o e
          which (inr w) = over_extra C x w.0 bx w.1.0 (sym w.2)

      rest : Past z P.outs
      rest =
          record {
            single = P.outs_once h.single;
            rows = λ r j. h.rows r (P.outs_only r j).0;
            even = λ x bx o.
                let e = h.even x bx in
                record {
                  half = e.half;
                  is = omega (
                    arith,
                    e.is,
                    has_same {r = row x} {l = P.outs} {m = S} (λ j. (P.outs_only (row x) j).0)
                        (λ j. P.outs_all (row x) j (other_own x bx o)),
                    has_same {r = over x} {l = P.outs} {m = S} (λ j. (P.outs_only (over x) j).0)
                        (λ j. P.outs_all (over x) j (other_over x bx o)),
                  );
                };
            broken = λ x bx j f. h.broken x bx (P.outs_only (over x) j).0 (λ w g. (P.outs_only (row w) (f w g)).0);
            none = λ w g j. (P.outs_only (row w) j).1 (own_in w g);
            not = λ j. (P.outs_only (over z) j).1 (at refl);
          }

      left : length P.outs ≤ b
      left = base P.outs rest

      side_of : (w : ℕ) → Band C z w → In (row w) S → Even (1 + has (over z) S + side T w z)
      side_of w g j =
          let e = h.even w g.0 in
          let q : has (over w) S ≡ has (over z) S = ap (λ r. has r S) g.1 in
          record { half = e.half; is = omega (arith, e.is, has_yes j, q) }

      direct : ¬ In (over z) S → length P.ins ≤ i
      direct o =
          omega (
            arith,
            distinct_le P.ins (each row ups.list) (P.ins_once h.single) into,
            each_length row ups.list,
            ups.long,
          )
        where
          into : (r : ℕ) → In r P.ins → In r (each row ups.list)
          into r j = which (ring_in r (P.ins_only r j).1)
            where
              which : (r ≡ over z) ⊎ ((w : ℕ) × Band C z w × (row w ≡ r)) → In r (each row ups.list)
              which (inl e) = absurd (o (rw e at (P.ins_only r j).0))
              which (inr w) =
                  let e = side_of w.0 w.1 (rw w.2 (P.ins_only r j).0) in
                  let s : side T w.0 z ≡ 1 = omega (arith, e.is, has_no o, side_most w.0) in
                  rw w.2 at (in_each row ups.list (ups.all w.0 (w.1, s)))
                where
                  side_most : (x : ℕ) → side T x z ≤ 1
                  side_most x = by (above? T x z bz.0)
                    where
                      by : Dec (Ab x z) → side T x z ≤ 1
                      by (yes q) = omega (arith, side_in T bz.0 q)
                      by (no q) = omega (arith, side_out T q)

      round : In (over z) S → length P.ins + i ≤ m + 1
      round o = with (count_rest (λ x. ℕ_discrete (side T x z) 1) all ups)
        where
          with : (j : ℕ) × Count (λ x. Band C z x × ¬ (side T x z ≡ 1)) j × (i + j ≡ m) → length P.ins + i ≤ m + 1
          with t =
              omega (
                arith,
                distinct_le P.ins (over z ∷ each row t.1.list) (P.ins_once h.single) into,
                each_length row t.1.list,
                t.1.long,
                t.2,
              )
            where
              into : (r : ℕ) → In r P.ins → In r (over z ∷ each row t.1.list)
              into r j = which (ring_in r (P.ins_only r j).1)
                where
                  which : (r ≡ over z) ⊎ ((w : ℕ) × Band C z w × (row w ≡ r)) → In r (over z ∷ each row t.1.list)
                  which (inl e) = at e
                  which (inr w) =
                      let e = side_of w.0 w.1 (rw w.2 (P.ins_only r j).0) in
                      let s : ¬ (side T w.0 z ≡ 1) = λ q. omega (arith, e.is, has_yes o, q) in
                      past (rw w.2 at (in_each row t.1.list (t.1.all w.0 (w.1, s))))

      pick : Dec (In (over z) S) → (length S ≤ b + i) ⊎ (length S + i ≤ b + m + 1)
      pick (no o) = inl (omega (arith, direct o, left, P.long))
      pick (yes o) = inr (omega (arith, round o, left, P.long))

  -- what the sweep computes: D z the most rows of a path to z, b z of those before its band, i z and m z the nodes of
  -- the band above z and in all
  pub record Valued (D b i m : ℕ → ℕ) : Type 0 where
    pub start : D a ≡ 0
    pub many : (z : ℕ) → Node n a z → Count (Band C z) (m z)
    pub first : (z : ℕ) → Node n a z → Top C z → (b z ≡ D (par z)) × (i z ≡ 1)
    pub again : (z : ℕ) → Node n a z → par z ≢ a → over (par z) ≡ over z → (b z ≡ b (par z)) × (i z ≡ i (par z) + 1)
    pub best : (z : ℕ) → Node n a z
        → ((m z + 1 ≤ i z + i z) × (D z ≡ b z + i z)) ⊎ ((i z + i z ≤ m z + 1) × (D z + i z ≡ b z + m z + 1))

  pub top? : (z : ℕ) → Top C z ⊎ ((par z ≢ a) × (over (par z) ≡ over z))
  top? z = pick (ℕ_discrete (par z) a) (ℕ_discrete (over (par z)) (over z))
    where
      pick : Dec (par z ≡ a) → Dec (over (par z) ≡ over z) → Top C z ⊎ ((par z ≢ a) × (over (par z) ≡ over z))
      pick (yes e) d = inl (inl e)
      pick (no m) (no d) = inl (inr d)
      pick (no m) (yes d) = inr (m, d)

  module _ {D b i m : ℕ → ℕ} (X : Valued D b i m) where
    -- i z counts
    pub ups : (z : ℕ) → Node n a z → Count (Climbs z) (i z)
    ups z bz = down (suc (place z)) z bz (omega arith)
      where
        down : (f z : ℕ) → Node n a z → place z < f → Count (Climbs z) (i z)
        down zero z bz l = absurd (omega arith)
        down (suc f) z bz l = pick (top? z) (down f (par z))
          where
            here : Climbs z z
            here = ((bz, refl), side_in T bz.0 self)

            pick : Top C z ⊎ ((par z ≢ a) × (over (par z) ≡ over z))
                → (Node n a (par z) → place (par z) < f → Count (Climbs (par z)) (i (par z))) → Count (Climbs z) (i z)
            pick (inl t) ih = rw (X.first z bz t).1 (count_one z here only)
              where
                only : (y : ℕ) → Climbs z y → y ≡ z
                only y g = decide (above? T y z bz.0)
                  where
                    decide : Dec (Ab y z) → y ≡ z
                    decide (no q) = absurd (omega (arith, g.1, side_out T q))
                    decide (yes q) = which (above_inv q)
                      where
                        which : (y ≡ z) ⊎ ((z ≢ a) × Ab y (par z)) → y ≡ z
                        which (inl e) = e
                        which (inr w) = absurd (top C z bz t y g.0.0 g.0.1 w.1)
            pick (inr t) ih =
                rw (X.again z bz t.0 t.1).1
                (count_add {P = Climbs (par z)} {Q = λ x. x ≡ z} {R = Climbs z}
                (ih (T.fits z bz.0 bz.1, t.0) (omega (arith, T.earlier z bz.0 bz.1)))
                (count_one z refl (λ y e. e)) apart either lift (λ x e. rw e here))
              where
                apart : (x : ℕ) → Climbs (par z) x → x ≡ z → ⊥
                apart x g e = omega (arith, g.1, side_out T {t = x} {x = par z} (rw e (not_up T bz.0 bz.1)))

                either : (x : ℕ) → Climbs z x → Climbs (par z) x ⊎ (x ≡ z)
                either x g = decide (ℕ_discrete x z)
                  where
                    decide : Dec (x ≡ z) → Climbs (par z) x ⊎ (x ≡ z)
                    decide (yes e) = inr e
                    decide (no q) =
                        let s : side T x z ≡ side T x (par z) = side_step T bz.0 bz.1 (λ e. q (sym e)) in
                        inl ((g.0.0, g.0.1 ∙ sym t.1), sym s ∙ g.1)

                lift : (x : ℕ) → Climbs (par z) x → Climbs z x
                lift x g =
                    let s : side T x z ≡ side T x (par z) = side_step T bz.0 bz.1 (λ e. apart x g (sym e)) in
                    ((g.0.0, g.0.1 ∙ t.1), s ∙ g.1)

    abbrev Bound : ℕ → Type 0
    Bound z = (S : List ℕ) → Like z S → length S ≤ D z

    abbrev Base : ℕ → Type 0
    Base z = (S : List ℕ) → Past z S → length S ≤ b z

    bounds : (f z : ℕ) → z < n → place z < f → Bound z × (z ≢ a → Base z)
    bounds zero z bz l = absurd (omega arith)
    bounds (suc f) z bz l = pick (ℕ_discrete z a) (bounds f (par z))
      where
        IH : Type 0
        IH = par z < n → place (par z) < f → Bound (par z) × (par z ≢ a → Base (par z))

        pick : Dec (z ≡ a) → IH → Bound z × (z ≢ a → Base z)
        pick (yes e) ih = (λ S h. omega (arith, like_root S (rw e at h)), λ q. absurd (q e))
        pick (no q) ih = (total, λ w. base)
          where
            N : Node n a z
            N = (bz, q)

            up_one : Bound (par z) × (par z ≢ a → Base (par z))
            up_one = ih (T.fits z bz q) (omega (arith, T.earlier z bz q))

            base : Base z
            base S h = which (top? z)
              where
                which : Top C z ⊎ ((par z ≢ a) × (over (par z) ≡ over z)) → length S ≤ b z
                which (inl t) = omega (arith, (X.first z N t).0, up_one.0 S (past_top z N t S h))
                which (inr t) =
                    omega (arith, (X.again z N t.0 t.1).0, up_one.1 t.0 S (past_again z N t.1 S h))

            total : Bound z
            total S h = which (around z N base (ups z N) (X.many z N) S h) (X.best z N)
              where
                which : (length S ≤ b z + i z) ⊎ (length S + i z ≤ b z + m z + 1)
                    → ((m z + 1 ≤ i z + i z) × (D z ≡ b z + i z))
                    ⊎ ((i z + i z ≤ m z + 1) × (D z + i z ≡ b z + m z + 1)) → length S ≤ D z
                which (inl s) (inl t) = omega (arith, s, t.0, t.1)
                which (inl s) (inr t) = omega (arith, s, t.0, t.1)
                which (inr s) (inl t) = omega (arith, s, t.0, t.1)
                which (inr s) (inr t) = omega (arith, s, t.0, t.1)

    pub bound : {z : ℕ} {rs ns : List ℕ} → z < n → Walk u v (First k) a rs ns z → Distinct (a ∷ ns) → length rs ≤ D z
    bound {z} {rs} bz w d = (bounds (suc (place z)) z bz (omega arith)).0 rs (like w d)
