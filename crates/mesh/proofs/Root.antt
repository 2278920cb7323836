-- From one root: the bands give each node's own row the one row that passes over it, so that the sweep's values are
-- the greatest numbers of rows on simple paths from the root; the first node with the greatest of them is the first end
-- of a longest path.
use Prim.Native.Nat.{ℕ, suc, ◌+◌, ◌≤◌, ◌<◌}
use mathlib.Core.Path.{◌≡◌, refl, sym, ap, ◌∙◌}
use mathlib.Core.Logic.{◌⊎◌, inl, inr, ◌≢◌}
use mathlib.Core.List.{List}
use native.Mathlib.Omega.{arith}
use native.Mathlib.Decide.{ℕ_discrete, dec_le}
use lib.ListN.{length}
use Rattle.arrays.specs.At.{at}
use Rattle.net.specs.Count.{Count}
use Rattle.net.specs.Graph.{Ends}
use Rattle.net.proofs.Counts.{count_dec, count_same, count_unique}
use Rattle.mesh.specs.Mesh.{PathWith}
use Rattle.mesh.specs.work.Hung.{AboveIn, self, HungAt, InOrder}
use Rattle.mesh.specs.work.Bands.{NoRepeat, LeadsOut, Extra, Later, PassedOver, clear, by, AllPassed, NamedFrom}
use Rattle.mesh.specs.work.Sweep.{Computed, Farthest}
use Rattle.mesh.specs.work.Roots.{FromRoot}
use Rattle.mesh.proofs.Hung.{Node, Cuts, place_up}
use Rattle.mesh.proofs.Cuts.{Top}
use Rattle.mesh.proofs.Rings.{Band, leaves_extra, one_ring, end_in}
use Rattle.mesh.proofs.Bound.{Valued, bound}
use Rattle.mesh.proofs.Attain.{nodes_fit, reach}
use Rattle.mesh.proofs.Climbs.{root_none, extra_own, later_less, parts_leaving}

-- a node by itself is called by its own number
pub record Banded (u v : ℕ → ℕ) (k n a : ℕ) (par place : List ℕ) (over : List ℕ) : Type 0 where
  pub long : length over ≡ 256
  pub each : (x : ℕ) → x < n → PassedOver u v a par place x k x (at over x)

pub banded : {u v : ℕ → ℕ} {k n a : ℕ} {par order place over named : List ℕ} → HungAt u v k n a par order place
    → AllPassed u v n a par place k over → NamedFrom n over named → length named ≡ 256
    → Banded u v k n a par place named
banded {u} {v} {k} {n} {a} {par} {place = place} {over} {named} h s f l =
    record { long = l; each = λ x b. each x b (s.each x b) }
  where
    later_fits : {r w : ℕ} → r < k → Later place (u r) (v r) w → w < n
    later_fits {r} b (inl t) = rw t.0 (h.rows.second r b)
    later_fits {r} b (inr t) = rw t.0 (h.rows.first r b)

    each : (x : ℕ) → x < n → PassedOver u v a par place 256 k x (at over x)
        → PassedOver u v a par place x k x (at named x)
    each x b (clear q o) = clear ((f x b).0 q) o
    each x b (by r l e w only q) =
        let m : at over x ≢ 256 = λ z. omega (arith, later_fits l q, h.few) in
        by r l e w only (rw ((f x b).1 m) q)

-- what is passed over by a row has the name of one of its ends: so every place has a name, or none
pub passed_low : {u v : ℕ → ℕ} {k n a : ℕ} {par order place over : List ℕ} → HungAt u v k n a par order place
    → AllPassed u v n a par place k over → (x : ℕ) → x < n → at over x ≤ 256
passed_low {u} {v} {k} {n} {a} {par} {place = place} {over} h s x b = pick (s.each x b)
  where
    pick : PassedOver u v a par place 256 k x (at over x) → at over x ≤ 256
    pick (clear q o) = omega arith
    pick (by r l e w only (inl q)) = omega (arith, q.0, h.rows.second r l, h.few)
    pick (by r l e w only (inr q)) = omega (arith, q.0, h.rows.first r l, h.few)

-- the tree's order, which is all that the sweep asks
pub ordered : {u v : ℕ → ℕ} {k n a : ℕ} {par order place : List ℕ} → HungAt u v k n a par order place
    → InOrder n par order
ordered {n = n} {a} {par} {order} {place} h =
    record {
      few = h.few;
      some = omega (arith, h.tree.root);
      place = at place;
      top = rw h.top.0 h.top.1;
      fits = λ x b. fits x b (ℕ_discrete x a);
      within = h.within;
      back = h.back;
      here = h.here;
      earlier = λ i p b. omega (arith, h.tree.earlier (at order i) (h.within i b) (not_root i p b), h.back i b);
    }
  where
    fits : (x : ℕ) → x < n → Dec (x ≡ a) → at par x < n
    fits x b (yes e) = rw (e, h.top.1) h.tree.root
    fits x b (no m) = h.tree.fits x b m

    not_root : (i : ℕ) → 0 < i → i < n → at order i ≢ a
    not_root i p b e =
        let z : at place a ≡ 0 = rw h.top.0 at (h.back 0 (omega arith)) in
        omega (arith, h.back i b, ap (at place) e, z)

module _ {u v : ℕ → ℕ} {k n a : ℕ} {par order place : List ℕ} (h : HungAt u v k n a par order place) where
  -- a node's own row is the one row between it and its parent
  own_row : NoRepeat u v k → (x r : ℕ) → Node n a x → r < k → Ends u v r x (at par x) → r ≡ h.row x
  own_row o x r b l e = pick (dec_le (suc r) (h.row x)) (dec_le (suc (h.row x)) r)
    where
      own : Ends u v (h.row x) x (at par x)
      own = h.tree.ends x b.0 b.1

      again : (i j : ℕ) → Ends u v i x (at par x) → Ends u v j x (at par x) → Ends u v i (u j) (v j)
      again i j (inl p) (inl q) = inl (cc, cc)
      again i j (inl p) (inr q) = inr (cc, cc)
      again i j (inr p) (inl q) = inr (cc, cc)
      again i j (inr p) (inr q) = inl (cc, cc)

      pick : Dec (r < h.row x) → Dec (h.row x < r) → r ≡ h.row x
      pick (yes p) q = absurd (o (h.row x) (h.tree.row_fits x b.0 b.1) (r, p, again r (h.row x) e own))
      pick (no p) (yes q) = absurd (o r l (h.row x, q, again (h.row x) r own e))
      pick (no p) (no q) = omega arith

  -- a row that leads out from below x, other than x's own, joins no node to its parent
  beside : NoRepeat u v k → (x r : ℕ) → Node n a x → r < k → r ≢ h.row x → LeadsOut u v a (at par) x r
      → Extra u v par r
  beside o x r b l m w =
      record {
        first = λ e. none (u r) (h.rows.first r l) (inl (refl, sym e)) (λ z. h.rows.apart r l (root z e));
        second = λ e. none (v r) (h.rows.second r l) (inr (sym e, refl)) (λ z. h.rows.apart r l (sym (root z e)));
      }
    where
      -- the root is its own parent
      root : {y z : ℕ} → y ≡ a → at par y ≡ z → y ≡ z
      root z e = z ∙ sym h.top.1 ∙ ap (at par) (sym z) ∙ e

      none : (y : ℕ) → y < n → Ends u v r y (at par y) → y ≢ a → ⊥
      none y c e z = leaves_extra h.tree x r b m w (y, (c, z), sym (own_row o y r (c, z) l e))

  module _ (o : NoRepeat u v k) {over : List ℕ} (g : Banded u v k n a par place over) where
    -- the row over x; k + x where there is none
    pick_over : (x : ℕ) {w : ℕ} → PassedOver u v a par place x k x w → ℕ
    pick_over x (clear q e) = k + x
    pick_over x (by f l e w only t) = f

    ov_if : (x : ℕ) → Dec (x < n) → ℕ
    ov_if x (yes b) = pick_over x (g.each x b)
    ov_if x (no b) = k + x

    ov : ℕ → ℕ
    ov x = ov_if x (dec_le (suc x) n)

    -- what is known of it
    record Is (x w f : ℕ) : Type 0 where
      alone : k ≤ f → (f ≡ k + x) × (w ≡ x) × ((r : ℕ) → r < k → Extra u v par r → ¬ LeadsOut u v a (at par) x r)
      passed : f < k → Extra u v par f × LeadsOut u v a (at par) x f × Later place (u f) (v f) w
          × ((r : ℕ) → r < k → Extra u v par r → LeadsOut u v a (at par) x r → r ≡ f)

    is_pick : (x : ℕ) {w : ℕ} (p : PassedOver u v a par place x k x w) → Is x w (pick_over x p)
    unfolding pick_over
    is_pick x (clear q e) = record { alone = λ l. (refl, q, e); passed = λ l. absurd (omega arith) }
    is_pick x (by f l e w only t) = record { alone = λ m. absurd (omega arith); passed = λ m. (e, w, t, only) }

    is_if : (x : ℕ) (d : Dec (x < n)) → x < n → Is x (at over x) (ov_if x d)
    unfolding ov_if
    is_if x (yes b) c = is_pick x (g.each x b)
    is_if x (no b) c = absurd (b c)

    is : (x : ℕ) → x < n → Is x (at over x) (ov x)
    unfolding ov
    is x b = is_if x (dec_le (suc x) n) b

    cuts : Cuts h.tree ov
    cuts = record { only = only; leads = leads; none = λ x b z l. ((is x b).alone l).0 }
      where
        only : (x r : ℕ) → x < n → x ≢ a → r < k → r ≢ h.row x → LeadsOut u v a (at par) x r → ov x ≡ r
        only x r b z l m w = pick (dec_le (suc (ov x)) k)
          where
            e : Extra u v par r
            e = beside o x r (b, z) l m w

            pick : Dec (ov x < k) → ov x ≡ r
            pick (yes q) = sym (((is x b).passed q).3 r l e w)
            pick (no q) = absurd (((is x b).alone (omega arith)).2 r l e w)

        leads : (x : ℕ) → x < n → x ≢ a → ov x < k → (ov x ≢ h.row x) × LeadsOut u v a (at par) x (ov x)
        leads x b z l = let t = (is x b).passed l in (extra_own h x (ov x) (b, z) t.0, t.1)

    -- the root is of no band
    root_alone : ov a ≡ k + a
    root_alone = pick (dec_le (suc (ov a)) k)
      where
        pick : Dec (ov a < k) → ov a ≡ k + a
        pick (yes q) = absurd (root_none h (ov a) q ((is a h.tree.root).passed q).1)
        pick (no q) = ((is a h.tree.root).alone (omega arith)).0

    -- the later end of a row is below itself, the other end is not: so the row passes over it
    end_passed : (f w : ℕ) → f < k → Later place (u f) (v f) w → (w < n) × LeadsOut u v a (at par) w f
    end_passed f w l t =
        pick (later_less h (h.rows.first f l) (h.rows.second f l) (h.rows.apart f l) t)
      where
        not_up : {x y : ℕ} → y < n → at place y < at place x → ¬ AboveIn a (at par) x y
        not_up b q i = omega (arith, place_up h.tree b i)

        pick : ((w ≡ u f) × (at place (v f) < at place (u f))) ⊎ ((w ≡ v f) × (at place (u f) < at place (v f)))
            → (w < n) × LeadsOut u v a (at par) w f
        pick (inl e) =
            rw e.0
            (h.rows.first f l, parts_leaving h {t = u f} {r = f} (inl (self, not_up (h.rows.second f l) e.1)))
        pick (inr e) =
            rw e.0
            (h.rows.second f l, parts_leaving h {t = v f} {r = f} (inr (not_up (h.rows.first f l) e.1, self)))

    -- bands have one name
    same_row : (x y : ℕ) → x < n → y < n → ov x < k → at over x ≡ at over y → ov y ≡ ov x
    same_row x y b c l e = pick (dec_le (suc (ov y)) k)
      where
        X : Extra u v par (ov x) × LeadsOut u v a (at par) x (ov x) × Later place (u (ov x)) (v (ov x)) (at over x)
            × ((r : ℕ) → r < k → Extra u v par r → LeadsOut u v a (at par) x r → r ≡ ov x)
        X = (is x b).passed l

        W : (at over x < n) × LeadsOut u v a (at par) (at over x) (ov x)
        W = end_passed (ov x) (at over x) l X.2

        pick : Dec (ov y < k) → ov y ≡ ov x
        pick (no q) =
            let A = (is y c).alone (omega arith) in
            let z : at over x ≡ y = e ∙ A.1 in
            absurd (A.2 (ov x) l X.0 (rw z at W.1))
        pick (yes q) = both (dec_le (suc (ov (at over x))) k)
          where
            Y : Extra u v par (ov y) × LeadsOut u v a (at par) y (ov y) × Later place (u (ov y)) (v (ov y)) (at over y)
                × ((r : ℕ) → r < k → Extra u v par r → LeadsOut u v a (at par) y r → r ≡ ov y)
            Y = (is y c).passed q

            Z : (at over x < n) × LeadsOut u v a (at par) (at over x) (ov y)
            Z = end_passed (ov y) (at over x) q (rw e Y.2)

            both : Dec (ov (at over x) < k) → ov y ≡ ov x
            both (yes m) =
                let T = ((is (at over x) W.0).passed m).3 in
                T (ov y) q Y.0 Z.1 ∙ sym (T (ov x) l X.0 W.1)
            both (no m) = absurd (((is (at over x) W.0).alone (omega arith)).2 (ov x) l X.0 W.1)

    name_row : (x y : ℕ) → x < n → y < n → at over x ≡ at over y → ov x ≡ ov y
    name_row x y b c e = pick (dec_le (suc (ov x)) k) (dec_le (suc (ov y)) k)
      where
        pick : Dec (ov x < k) → Dec (ov y < k) → ov x ≡ ov y
        pick (yes p) q = sym (same_row x y b c p e)
        pick (no p) (yes q) = same_row y x c b q (sym e)
        pick (no p) (no q) =
            let A = (is x b).alone (omega arith) in
            let B = (is y c).alone (omega arith) in
            omega (arith, A.0, B.0, A.1, B.1, e)

    later_one : {p q w z : ℕ} → p < n → q < n → p ≢ q → Later place p q w → Later place p q z → w ≡ z
    later_one b c m s t = pick (later_less h b c m s) (later_less h b c m t)
      where
        pick : {p q w z : ℕ} → ((w ≡ p) × (at place q < at place p)) ⊎ ((w ≡ q) × (at place p < at place q))
            → ((z ≡ p) × (at place q < at place p)) ⊎ ((z ≡ q) × (at place p < at place q)) → w ≡ z
        pick (inl e) (inl f) = e.0 ∙ sym f.0
        pick (inl e) (inr f) = absurd (omega (arith, e.1, f.1))
        pick (inr e) (inl f) = absurd (omega (arith, e.1, f.1))
        pick (inr e) (inr f) = e.0 ∙ sym f.0

    row_name : (x y : ℕ) → x < n → y < n → ov x ≡ ov y → at over x ≡ at over y
    row_name x y b c e = pick (dec_le (suc (ov x)) k)
      where
        pick : Dec (ov x < k) → at over x ≡ at over y
        pick (yes p) =
            let X = (is x b).passed p in
            let Y = (is y c).passed (rw e at p) in
            later_one (h.rows.first (ov x) p) (h.rows.second (ov x) p) (h.rows.apart (ov x) p) X.2
            (rw e Y.2)
        pick (no p) =
            let A = (is x b).alone (omega arith) in
            let B = (is y c).alone (omega (arith, e)) in
            omega (arith, A.0, B.0, A.1, B.1, e)

    root_other : (z : ℕ) → Node n a z → ov a ≢ ov z
    root_other z b e = pick (dec_le (suc (ov z)) k)
      where
        pick : Dec (ov z < k) → ⊥
        pick (yes q) = omega (arith, root_alone)
        pick (no q) = b.1 (omega (arith, root_alone, ((is z b.0).alone (omega arith)).0))

    module _ {D b i : List ℕ} (c : Computed n a par over D b i) where
      size : (z : ℕ) → (m : ℕ) × Count (λ x. (x < n) × (at over x ≡ at over z)) m
      size z = count_dec n (λ x. ℕ_discrete (at over x) (at over z))

      par_fits : (z : ℕ) → Node n a z → at par z < n
      par_fits z w = h.tree.fits z w.0 w.1

      valued : Valued cuts (at D) (at b) (at i) (λ z. (size z).0)
      valued =
          record {
            start = c.start;
            many = λ z w. count_same {Q = Band cuts z}
                (λ x q. (
                  (q.0, λ e. root_other z w (ap ov (sym e) ∙ name_row x z q.0 w.0 q.1)),
                  name_row x z q.0 w.0 q.1,
                ))
                (λ x q. (q.0.0, row_name x z q.0.0 w.0 q.1)) (size z).1;
            first = λ z w t. (c.law z w.0 w.1).step.first
                (λ e. leaves z w t (name_row (at par z) z (par_fits z w) w.0 e));
            again = λ z w m e. (c.law z w.0 w.1).step.again (row_name (at par z) z (par_fits z w) w.0 e);
            best = λ z w. let t = c.law z w.0 w.1 in rw (count_unique t.many (size z).1) at t.best;
          }
        where
          leaves : (z : ℕ) → Node n a z → Top cuts z → ov (at par z) ≢ ov z
          leaves z w (inl e) = rw e (root_other z w)
          leaves z w (inr m) = m

      pub root_gives : {z l : ℕ} → Farthest n D z → l ≡ at D z → FromRoot u v k a l z
      root_gives {z} {l} f e =
          record {
            one = one_ring cuts;
            some = let t = reach cuts valued z f.within in (t.rs, (t.ns, t.walk, t.apart), t.long ∙ sym e);
            most = λ y m t. omega (arith, e, t.2, upper y t, f.most y (fits y t));
            first = λ y t. pick y t (dec_le z y);
          }
        where
          fits : (y : ℕ) {m : ℕ} → PathWith u v k a y m → y < n
          fits y t = nodes_fit cuts y h.tree.root t.1.1 (end_in u v t.1.1)

          upper : (y : ℕ) {m : ℕ} (t : PathWith u v k a y m) → length t.0 ≤ at D y
          upper y t = bound cuts valued (fits y t) t.1.1 t.1.2

          pick : (y : ℕ) → PathWith u v k a y l → Dec (z ≤ y) → z ≤ y
          pick y t (yes q) = q
          pick y t (no q) = absurd (omega (arith, f.first y (omega arith), upper y t, t.2, e))
