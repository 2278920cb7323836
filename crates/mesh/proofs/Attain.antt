-- The bound is attained: a simple path from the root to z with D z rows, band by band, each the one way round or the
-- other.
use Prim.Native.Nat.{ℕ, zero, suc, ◌+◌, ◌≤◌, ◌<◌}
use mathlib.Core.Path.{◌≡◌, refl, sym, ap, ◌∙◌}
use mathlib.Core.Logic.{◌⊎◌, inl, inr, ◌≢◌, ⊎_elim}
use mathlib.Core.List.{List, [], ◌∷◌, ◌++◌}
use native.Mathlib.Omega.{arith}
use native.Mathlib.Decide.{ℕ_discrete, dec_le}
use lib.ListN.{length, length-append}
use Rattle.arrays.specs.Members.{In, at, past, Distinct}
use Rattle.net.specs.Count.{Count}
use Rattle.net.specs.Graph.{First, Walk, stop, go, Joined}
use Rattle.net.specs.work.Simple.{Simple}
use Rattle.arrays.proofs.Members.{not_nil, in_either, distinct_join}
use Rattle.net.proofs.Rows.{ends_flip}
use Rattle.net.proofs.Joined.{joined_step, joined_trans, joined_sym, walk_mono, walk_on}
use Rattle.net.proofs.Counts.{distinct_le, count_one, count_unique, count_some}
use Rattle.net.proofs.Erase.{simple}
use Rattle.net.proofs.RingExactly.{once}
use Rattle.mesh.proofs.Parity.{Even, has, has_yes, has_no, has_in, has_low}
use Rattle.mesh.proofs.Parts.{each, each_length, in_each, each_in, each_once, count_rest}
use Rattle.mesh.proofs.Follow.{prefix}
use Rattle.mesh.specs.work.Hung.{AboveIn, self, up, TreeAt}
use Rattle.mesh.proofs.Hung.{
  Node,
  above_trans,
  above_chain,
  place_up,
  not_up,
  above_anti,
  root_only,
  root_above,
  above?,
  side,
  side_in,
  side_self,
  side_out,
  side_same,
  up_step,
  row_inj,
  Leaves,
  ends_fit,
  Cuts,
}
use Rattle.mesh.proofs.Cuts.{over_extra, cut_parity, out, out_p, out_q, band_one, band_p, Top, top}
use Rattle.mesh.proofs.Rings.{Own, climb, tree_path, own_low, tree_parity, Band, walk_each}
use Rattle.mesh.proofs.Bound.{Climbs, Valued, top?, ups}

module _ {u v : ℕ → ℕ} {k n a : ℕ} {par row place : ℕ → ℕ} {T : TreeAt u v k n a par row place} {over : ℕ → ℕ}
    (C : Cuts T over) where
  abbrev Ab : ℕ → ℕ → Type 0
  Ab = AboveIn a par

  side_low : (x z : ℕ) → z < n → side T x z ≤ 1
  side_low x z b = by (above? T x z b)
    where
      by : Dec (Ab x z) → side T x z ≤ 1
      by (yes q) = omega (arith, side_in T b q)
      by (no q) = omega (arith, side_out T q)

  pub nodes_fit : (z : ℕ) {x y : ℕ} {rs ns : List ℕ} → x < n → Walk u v (First k) x rs ns y → In z (x ∷ ns) → z < n
  nodes_fit z b w (at e) = rw e b
  nodes_fit z b stop (past i) = absurd (not_nil i)
  nodes_fit z b (go h e w) (past i) = nodes_fit z (ends_fit T h e).1 w i

  -- a way round z's band, from the parent t of its top node to z: it meets nodes of the band alone
  pub record Way (z t l : ℕ) : Type 0 where
    pub rs : List ℕ
    pub ns : List ℕ
    pub walk : Walk u v (First k) t rs ns z
    pub apart : Distinct (t ∷ ns)
    pub long : length rs ≡ l
    pub inside : (g : ℕ) → In g ns → Band C z g

  module _ (z w : ℕ) (bz : Node n a z) (gw : Band C z w) (wz : Ab w z) (tw : Top C w) where
    abbrev t : ℕ
    t = par w

    bt : t < n
    bt = T.fits w gw.0.0 gw.0.1

    tz : Ab t z
    tz = above_trans (up gw.0.1 refl self) wz

    -- between w and z all is of the band
    between : (y : ℕ) → Node n a y → Ab w y → Ab y z → over y ≡ over z
    between y by i j = pick (dec_le (suc (over z)) k)
      where
        pick : Dec (over z < k) → over y ≡ over z
        pick (yes l) =
            band_p C z bz l y by (above_trans j (out C z bz l).below)
            (λ q. band_one C z bz l w gw.0 gw.1 (above_trans wz (out C z bz l).below, above_trans i q))
        pick (no l) =
            let e : w ≡ z = omega (
              arith,
              gw.1,
              C.none z bz.0 bz.1 (omega arith),
              C.none w gw.0.0 gw.0.1 (omega (arith, gw.1)),
            ) in
            ap over (above_anti T bz.0 j (rw e at i))

    -- other bands have t and z on the same side, z's own has t outside
    same_side : (y : ℕ) → Node n a y → over y ≢ over z → side T y t ≡ side T y z
    same_side y by o = side_same T bt bz.0 (λ h. above_trans h tz) lower
      where
        lower : Ab y z → Ab y t
        lower h = which (above_chain h wz)
          where
            which : Ab y w ⊎ Ab w y → Ab y t
            which (inl i) = up_step T (λ e. o (ap over (sym e) ∙ gw.1)) i
            which (inr i) = absurd (o (between y by i h))

    t_out : (y : ℕ) → Band C z y → side T y t ≡ 0
    t_out y g = side_out T (top C w gw.0 tw y g.0 (g.1 ∙ sym gw.1))

    -- the nodes of a walk from t that has no row of another band
    only_band : {b : ℕ} {rs ns : List ℕ} → Walk u v (First k) t rs ns b → Distinct rs
        → ((y : ℕ) → Node n a y → over y ≢ over z → (¬ In (row y) rs) × (¬ In (over y) rs)) → (g : ℕ) → In g (t ∷ ns)
        → (g ≡ t) ⊎ Band C z g
    only_band {rs = rs} x d f g i = pick (ℕ_discrete g a) (ℕ_discrete t a) (ℕ_discrete (over g) (over z))
      where
        bg : g < n
        bg = nodes_fit g bt x i

        sides : (y : ℕ) → Node n a y → over y ≢ over z → Even (side T y t + side T y g)
        sides y by o =
            let e = cut_parity C y by (prefix u v x i).walk ((prefix u v x i).once d) in
            record {
              half = e.half;
              is = omega (
                arith,
                e.is,
                has_no (λ j. (f y by o).0 ((prefix u v x i).within _ j)),
                has_no (λ j. (f y by o).1 ((prefix u v x i).within _ j)),
              );
            }

        over_t : t ≢ a → over t ≢ over z
        over_t q e = which tw
          where
            which : Top C w → ⊥
            which (inl h) = q h
            which (inr h) = h (e ∙ sym gw.1)

        in_g : t ≢ a → Ab t g
        in_g q = decide (above? T t g bg)
          where
            decide : Dec (Ab t g) → Ab t g
            decide (yes h) = h
            decide (no h) =
                let e = sides t (bt, q) (over_t q) in
                absurd (omega (arith, e.is, side_self T {t = t} bt, side_out T h))

        pick : Dec (g ≡ a) → Dec (t ≡ a) → Dec (over g ≡ over z) → (g ≡ t) ⊎ Band C z g
        pick (yes e) (yes q) o = inl (e ∙ sym q)
        pick (yes e) (no q) o = absurd (q (root_only T (rw e at (in_g q))))
        pick (no e) q (yes o) = inr ((bg, e), o)
        pick (no e) q (no o) = inl (meet (above? T g t bt) q)
          where
            meet : Dec (Ab g t) → Dec (t ≡ a) → g ≡ t
            meet (no h) q =
                let s = sides g (bg, e) o in
                absurd (omega (arith, s.is, side_self T {t = g} bg, side_out T h))
            meet (yes h) (yes q) = absurd (e (root_only T (rw q at h)))
            meet (yes h) (no q) = above_anti T bt h (in_g q)

    way : {l : ℕ} (s : Simple u v (First k) t z) → length s.0 ≡ l
        → ((y : ℕ) → Node n a y → over y ≢ over z → (¬ In (row y) s.0) × (¬ In (over y) s.0)) → Way z t l
    way s e f = record { rs = s.0; ns = s.1; walk = s.2; apart = s.3; long = e; inside = inside }
      where
        inside : (g : ℕ) → In g s.1 → Band C z g
        inside g i = which (only_band s.2 (once u v s.2 s.3) f g (past i))
          where
            which : (g ≡ t) ⊎ Band C z g → Band C z g
            which (inl e) = absurd (s.3.0 (rw e at i))
            which (inr h) = h

    -- down the tree
    pub direct : {i : ℕ} → Count (Climbs C z) i → Way z t i
    direct {i} c = make (tree_path T t z bt bz.0)
      where
        make : Simple u v (Own T) t z → Way z t i
        make s =
            way (s.0, s.1, walk_mono u v (own_low T) s.2, s.3)
            (omega (arith, less, more, each_length row c.list, c.long)) others
          where
            d : Distinct s.0
            d = once u v s.2 s.3

            law : (y : ℕ) → Node n a y → Even (has (row y) s.0 + side T y t + side T y z)
            law y by = tree_parity T y by s.2 d

            other : (y : ℕ) → Node n a y → over y ≢ over z → ¬ In (row y) s.0
            other y by o j = let e = law y by in omega (arith, e.is, has_yes j, same_side y by o)

            others : (y : ℕ) → Node n a y → over y ≢ over z → (¬ In (row y) s.0) × (¬ In (over y) s.0)
            others y by o = (
              other y by o,
              λ j. let x = walk_each u v s.2 (over y) j in over_extra C y x.0 by x.1 (sym x.2),
            )

            into : (r : ℕ) → In r s.0 → In r (each row c.list)
            into r j = let x = walk_each u v s.2 r j in pick x (ℕ_discrete (over x.0) (over z))
              where
                pick : (x : Own T r) → Dec (over x.0 ≡ over z) → In r (each row c.list)
                pick x (no o) = absurd (other x.0 x.1 o (rw x.2 j))
                pick x (yes o) =
                    let e = law x.0 x.1 in
                    let h : has (row x.0) s.0 ≡ 1 = has_yes (rw x.2 j) in
                    let q : side T x.0 z ≡ 1 =
                    omega (arith, e.is, h, t_out x.0 (x.1, o), side_low x.0 z bz.0) in
                    rw x.2 at (in_each row c.list (c.all x.0 ((x.1, o), q)))

            back : (r : ℕ) → In r (each row c.list) → In r s.0
            back r j =
                let x = each_in row c.list j in
                let g = c.only x.0 x.1 in
                let e = law x.0 g.0.0 in
                rw x.2
                at (has_in {r = row x.0} {l = s.0}
                (omega (arith, e.is, g.1, t_out x.0 g.0, has_low (row x.0) s.0)))

            less : length s.0 ≤ length (each row c.list)
            less = distinct_le s.0 (each row c.list) d into

            more : length (each row c.list) ≤ length s.0
            more =
                distinct_le (each row c.list) s.0
                (each_once row c.list
                (λ x y p q e. row_inj T (c.only x p).0.0.0 (c.only x p).0.0.1 (c.only y q).0.0.0
                (c.only y q).0.0.1 e)
                c.once)
                back

    -- by the row across
    module _ (l : over z < k) where
      abbrev L : Leaves T z (over z)
      L = out C z bz l

      -- all but w's own row
      abbrev Round : ℕ → Type 0
      Round r = (Own T r × (r ≢ row w)) ⊎ (r ≡ over z)

      round_low : (r : ℕ) → Round r → r < k
      round_low r (inl o) = own_low T r o.0
      round_low r (inr e) = rw e l

      not_own : (y : ℕ) → Node n a y → y ≢ w → Round (row y)
      not_own y by m = inl ((y, by, refl), λ e. m (row_inj T by.0 by.1 gw.0.0 gw.0.1 e))

      w_q : ¬ Ab w L.q
      w_q h = band_one C z bz l w gw.0 gw.1 (above_trans wz L.below, h)

      joined : Joined u v Round t z
      joined =
          joined_trans u v
          (climb T bt (root_above T t bt)
          (λ y by i j m. not_own y by (λ e. not_up T gw.0.0 gw.0.1 (rw e at i))))
          (joined_trans u v
          (joined_sym u v
          (climb T (out_q C z bz l) (root_above T L.q (out_q C z bz l))
          (λ y by i j m. not_own y by (λ e. w_q (rw e at i)))))
          (joined_step u v (inr refl) (ends_flip u v L.joins)
          (climb T (out_p C z bz l) L.below
          (λ y by i j m. not_own y by (λ e. m (e ∙ above_anti T bz.0 wz (rw e at j)))))))

      pub round : {i m : ℕ} → Count (Climbs C z) i → Count (Band C z) m → (j : ℕ) × Way z t j × (j + i ≡ m + 1)
      round {i} {m} c all = make (simple u v joined) (count_rest (λ x. ℕ_discrete (side T x z) 1) all c)
        where
          make : Simple u v Round t z → (j : ℕ) × Count (λ x. Band C z x × ¬ (side T x z ≡ 1)) j × (i + j ≡ m)
              → (j : ℕ) × Way z t j × (j + i ≡ m + 1)
          make s b = (
            length s.0,
            way (s.0, s.1, walk_mono u v round_low s.2, s.3) refl others,
            omega (arith, less, more, each_length row b.1.list, b.1.long, b.2),
          )
            where
              d : Distinct s.0
              d = once u v s.2 s.3

              law : (y : ℕ) → Node n a y → Even (has (row y) s.0 + has (over y) s.0 + side T y t + side T y z)
              law y by = cut_parity C y by (walk_mono u v round_low s.2) d

              no_w : ¬ In (row w) s.0
              no_w j = which (walk_each u v s.2 (row w) j)
                where
                  which : Round (row w) → ⊥
                  which (inl o) = o.1 refl
                  which (inr e) = over_extra C z w bz gw.0 (sym e)

              over_in : In (over z) s.0
              over_in =
                  let e = law w gw.0 in
                  let q : has (over w) s.0 ≡ 1 =
                  omega (arith, e.is, has_no no_w, t_out w gw, side_in T bz.0 wz, has_low (over w) s.0) in
                  rw gw.1 at (has_in {r = over w} {l = s.0} q)

              no_over : (y : ℕ) → Node n a y → over y ≢ over z → ¬ In (over y) s.0
              no_over y by o j = which (walk_each u v s.2 (over y) j)
                where
                  which : Round (over y) → ⊥
                  which (inl x) = over_extra C y x.0.0 by x.0.1 (sym x.0.2)
                  which (inr e) = o e

              others : (y : ℕ) → Node n a y → over y ≢ over z → (¬ In (row y) s.0) × (¬ In (over y) s.0)
              others y by o = (
                λ j. let e = law y by in omega (arith, e.is, has_yes j, has_no (no_over y by o), same_side y by o),
                no_over y by o,
              )

              over_has : (y : ℕ) → Band C z y → has (over y) s.0 ≡ 1
              over_has y g = has_yes (rw g.1 over_in)

              into : (r : ℕ) → In r s.0 → In r (over z ∷ each row b.1.list)
              into r j = which (walk_each u v s.2 r j)
                where
                  own : (x : Own T r) → Dec (over x.0 ≡ over z) → In r (over z ∷ each row b.1.list)
                  own x (no o) = absurd ((others x.0 x.1 o).0 (rw x.2 j))
                  own x (yes o) =
                      let e = law x.0 x.1 in
                      let h : has (row x.0) s.0 ≡ 1 = has_yes (rw x.2 j) in
                      let q : ¬ (side T x.0 z ≡ 1) =
                      λ f. omega (arith, e.is, h, f, over_has x.0 (x.1, o), t_out x.0 (x.1, o)) in
                      past (rw x.2 at (in_each row b.1.list (b.1.all x.0 ((x.1, o), q))))

                  which : Round r → In r (over z ∷ each row b.1.list)
                  which (inr e) = at e
                  which (inl x) = own x.0 (ℕ_discrete (over x.0.0) (over z))

              back : (r : ℕ) → In r (over z ∷ each row b.1.list) → In r s.0
              back r (at e) = rw e over_in
              back r (past j) =
                  let x = each_in row b.1.list j in
                  let g = b.1.only x.0 x.1 in
                  let e = law x.0 g.0.0 in
                  rw x.2
                  at (has_in {r = row x.0} {l = s.0}
                  (omega (
                    arith,
                    e.is,
                    g.1,
                    side_low x.0 z bz.0,
                    over_has x.0 g.0,
                    t_out x.0 g.0,
                    has_low (row x.0) s.0,
                  )))

              less : length s.0 ≤ suc (length (each row b.1.list))
              less = distinct_le s.0 (over z ∷ each row b.1.list) d into

              more : suc (length (each row b.1.list)) ≤ length s.0
              more =
                  distinct_le (over z ∷ each row b.1.list) s.0 (
                    fresh,
                    each_once row b.1.list
                        (λ x y p q e. row_inj T (b.1.only x p).0.0.0 (b.1.only x p).0.0.1
                        (b.1.only y q).0.0.0 (b.1.only y q).0.0.1 e)
                        b.1.once,
                  ) back
                where
                  fresh : ¬ In (over z) (each row b.1.list)
                  fresh j =
                      let x = each_in row b.1.list j in
                      over_extra C z x.0 bz (b.1.only x.0 x.1).0.0 (sym x.2)

  -- the paths, one after the other
  module _ {D b i m : ℕ → ℕ} (X : Valued C D b i m) where
    -- the top node of z's band above z
    record Topmost (z : ℕ) : Type 0 where
      w : ℕ
      band : Band C z w
      above : Ab w z
      top_most : Top C w
      value : b z ≡ D (par w)

    topmost : (f z : ℕ) → Node n a z → place z < f → Topmost z
    topmost zero z bz l = absurd (omega arith)
    topmost (suc f) z bz l = pick (top? C z) (topmost f (par z))
      where
        pick : Top C z ⊎ ((par z ≢ a) × (over (par z) ≡ over z))
            → (Node n a (par z) → place (par z) < f → Topmost (par z)) → Topmost z
        pick (inl h) ih = record { w = z; band = (bz, refl); above = self; top_most = h; value = (X.first z bz h).0 }
        pick (inr h) ih =
            let o = ih (T.fits z bz.0 bz.1, h.0) (omega (arith, T.earlier z bz.0 bz.1)) in
            record {
              w = o.w;
              band = (o.band.0, o.band.1 ∙ h.1);
              above = up bz.1 refl o.above;
              top_most = o.top_most;
              value = (X.again z bz h.0 h.1).0 ∙ o.value;
            }

    pub record Reach (z : ℕ) : Type 0 where
      pub rs : List ℕ
      pub ns : List ℕ
      pub walk : Walk u v (First k) a rs ns z
      pub apart : Distinct (a ∷ ns)
      pub long : length rs ≡ D z
      pub near : (g : ℕ) → In g ns → Node n a g × ((x : ℕ) × Node n a x × Ab x z × (over x ≡ over g))

    append : (z : ℕ) → Node n a z → (o : Topmost z) → Reach (par o.w) → {l : ℕ} → Way z (par o.w) l
        → b z + l ≡ D z → Reach z
    append z bz o p q e = record {
      rs = p.rs ++ q.rs;
      ns = p.ns ++ q.ns;
      walk = walk_on u v p.walk q.walk;
      apart = distinct_join (a ∷ p.ns) q.ns p.apart q.apart.1 fresh;
      long = omega (arith, length-append p.rs q.rs, p.long, q.long, e, o.value);
      near = λ g i. ⊎_elim (old g) (new g) (in_either p.ns i);
    }
      where
        fresh : (g : ℕ) → In g (a ∷ p.ns) → In g q.ns → ⊥
        fresh g (at f) j = (q.inside g j).0.1 f
        fresh g (past h) j =
            let s = (p.near g h).1 in
            top C o.w o.band.0 o.top_most s.0 s.1 (s.3 ∙ (q.inside g j).1 ∙ sym o.band.1) s.2

        old : (g : ℕ) → In g p.ns → Node n a g × ((x : ℕ) × Node n a x × Ab x z × (over x ≡ over g))
        old g h =
            let s = p.near g h in (
              s.0,
              (
                s.1.0,
                s.1.1,
                above_trans s.1.2 (above_trans (up o.band.0.1 refl self) o.above),
                s.1.3,
              ),
            )

        new : (g : ℕ) → In g q.ns → Node n a g × ((x : ℕ) × Node n a x × Ab x z × (over x ≡ over g))
        new g h = let s = q.inside g h in (s.0, (z, bz, self, sym s.1))

    reaches : (f z : ℕ) → z < n → place z < f → Reach z
    reaches zero z bz l = absurd (omega arith)
    reaches (suc f) z bz l = pick (ℕ_discrete z a) (reaches f)
      where
        pick : Dec (z ≡ a) → ((y : ℕ) → y < n → place y < f → Reach y) → Reach z
        pick (yes e) ih =
            rw e
            (record {
              rs = [];
              ns = [];
              walk = stop;
              apart = (not_nil, tt);
              long = sym X.start;
              near = λ g j. absurd (not_nil j);
            })
        pick (no q) ih = go_on (topmost (suc (place z)) z (bz, q) (omega arith))
          where
            N : Node n a z
            N = (bz, q)

            go_on : Topmost z → Reach z
            go_on o = choose (X.best z N) (dec_le (suc (over z)) k)
              where
                w : ℕ
                w = o.w

                before : Reach (par o.w)
                before =
                    ih (par o.w) (T.fits o.w o.band.0.0 o.band.0.1)
                    (omega (arith, T.earlier o.w o.band.0.0 o.band.0.1, place_up T bz o.above))

                down : b z + i z ≡ D z → Reach z
                down e = append z N o before (direct z o.w N o.band o.above o.top_most (ups C X z N)) e

                alone : k ≤ over z → m z ≡ 1
                alone l =
                    count_unique (X.many z N)
                    (count_one z (N, refl)
                    (λ y g. omega (
                      arith,
                      g.1,
                      C.none z bz q l,
                      C.none y g.0.0 g.0.1 (omega (arith, g.1, l)),
                    )))

                some : 0 < i z
                some = count_some z ((N, refl), side_in T bz self) (ups C X z N)

                choose :
                    ((m z + 1 ≤ i z + i z) × (D z ≡ b z + i z)) ⊎ ((i z + i z ≤ m z + 1) × (D z + i z ≡ b z + m z + 1))
                    → Dec (over z < k) → Reach z
                choose (inl h) d = down (sym h.1)
                choose (inr h) (no d) = down (omega (arith, h.0, h.1, alone (omega arith), some))
                choose (inr h) (yes d) =
                    let s = round z o.w N o.band o.above o.top_most d (ups C X z N) (X.many z N) in
                    append z N o before s.1 (omega (arith, s.2, h.1))

    pub reach : (z : ℕ) → z < n → Reach z
    reach z bz = reaches (suc (place z)) z bz (omega arith)
