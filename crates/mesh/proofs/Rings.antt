-- 38 exactly. A row across a node's own closes a ring with the tree; where each node's own row has one across at the
-- most, every ring is one of these.
use Prim.Native.Nat.{ℕ, ◌+◌, ◌≤◌, ◌<◌}
use mathlib.Core.Path.{◌≡◌, refl, sym, ap, ◌∙◌}
use mathlib.Core.Logic.{◌⊎◌, inl, inr, ◌≢◌, ⊎_elim}
use mathlib.Core.List.{List, ◌∷◌, ◌++◌}
use native.Mathlib.Omega.{arith}
use native.Mathlib.Decide.{ℕ_discrete}
use lib.ListN.{length}
use Rattle.arrays.specs.Members.{In, at, past, Distinct}
use Rattle.net.specs.Graph.{First, Ends, Walk, stop, go, Joined, Ring}
use Rattle.net.specs.work.Simple.{Simple}
use Rattle.arrays.proofs.Members.{distinct_parts, distinct_turn, in_either, in_left, in_right, not_nil}
use Rattle.net.proofs.Rows.{End}
use Rattle.net.proofs.Joined.{joined_refl, joined_step, joined_trans, joined_sym, walk_mono, walk_on}
use Rattle.net.proofs.Erase.{simple}
use Rattle.net.proofs.RingExactly.{once}
use Rattle.mesh.specs.Mesh.{OneRing}
use Rattle.mesh.proofs.Parity.{Even, one, one_same, one_other, has, has_yes, has_in, has_low, sum_one, parity}
use Rattle.mesh.proofs.Follow.{touch, Split, split, follow}
use Rattle.mesh.specs.work.Hung.{AboveIn, self, up, TreeAt}
use Rattle.mesh.proofs.Hung.{
  Node,
  not_up,
  root_above,
  above?,
  side,
  side_in,
  side_out,
  up_step,
  side_step,
  row_inj,
  Leaves,
  ends_fit,
  Cuts,
}
use Rattle.mesh.proofs.Cuts.{pair_same, over_extra, cut_parity, owned, out, band_one, band_p, band_q}

pub walk_each : (u v : ℕ → ℕ) {P : ℕ → Type 0} {a b : ℕ} {rs ns : List ℕ} → Walk u v P a rs ns b → (r : ℕ) → In r rs
    → P r
walk_each u v stop r i = absurd (not_nil i)
walk_each u v (go h e w) r (at q) = rw q h
walk_each u v (go h e w) r (past i) = walk_each u v w r i

pub end_in : (u v : ℕ → ℕ) {P : ℕ → Type 0} {a b : ℕ} {rs ns : List ℕ} → Walk u v P a rs ns b → In b (a ∷ ns)
end_in u v stop = at refl
end_in u v (go h e w) = past (end_in u v w)

longer : (u v : ℕ → ℕ) {P : ℕ → Type 0} {a b : ℕ} {rs ns : List ℕ} → Walk u v P a rs ns b → a ≢ b → 1 ≤ length rs
longer u v stop n = absurd (n refl)
longer u v (go h e w) n = omega arith

pub ends_sum : (u v s : ℕ → ℕ) {r p q : ℕ} → Ends u v r p q → s (u r) + s (v r) ≡ s p + s q
ends_sum u v s (inl e) = omega (arith, ap s e.0, ap s e.1)
ends_sum u v s (inr e) = omega (arith, ap s e.0, ap s e.1)

module _ {u v : ℕ → ℕ} {k n a : ℕ} {par row place : ℕ → ℕ} (T : TreeAt u v k n a par row place) where
  abbrev Ab : ℕ → ℕ → Type 0
  Ab = AboveIn a par

  -- some node's own row
  abbrev pub Own : ℕ → Type 0
  Own r = (y : ℕ) × Node n a y × (row y ≡ r)

  pub climb : {P : ℕ → Type 0} {t x : ℕ} → x < n → Ab t x → ((y : ℕ) → Node n a y → Ab y x → Ab t y → y ≢ t → P (row y))
      → Joined u v P x t
  climb b self f = joined_refl u v _
  climb {P} {t} {x} b (up z e h) f =
      joined_step u v
      (f x (b, z) self (up z e h) (λ q. not_up T b z (rw (e, q) h)))
      (rw (sym e) (T.ends x b z))
      (climb (rw e at (T.fits x b z)) h (λ y c i j m. f y c (up z e i) j m))

  pub tree_path : (x y : ℕ) → x < n → y < n → Simple u v Own x y
  tree_path x y b c =
      simple u v
      (joined_trans u v (climb b (root_above T x b) (λ y d i j m. (y, d, refl)))
      (joined_sym u v (climb c (root_above T y c) (λ y d i j m. (y, d, refl)))))

  pub own_low : (r : ℕ) → Own r → r < k
  own_low r o = rw o.2 at (T.row_fits o.0 o.1.0 o.1.1)

  -- of the nodes' own rows x's alone leads out from below x
  pub tree_parity : (x : ℕ) → Node n a x → {p q : ℕ} {rs ns : List ℕ} → Walk u v Own p rs ns q → Distinct rs
      → Even (has (row x) rs + side T x p + side T x q)
  tree_parity x bx {p} {q} {rs} w d =
      let t = parity u v (one (row x)) (side T x) law w in
      record { half = t.half; is = omega (arith, t.is, sum_one (row x) rs d) }
    where
      law : (r : ℕ) → Own r → Even (one (row x) r + side T x (u r) + side T x (v r))
      law r o = pick (ℕ_discrete o.0 x)
        where
          y : ℕ
          y = o.0

          by : Node n a y
          by = o.1

          ends : Ends u v r y (par y)
          ends = rw o.2 at (T.ends y by.0 by.1)

          pick : Dec (y ≡ x) → Even (one (row x) r + side T x (u r) + side T x (v r))
          pick (yes e) =
              let s1 : side T x y ≡ 1 = side_in T by.0 (rw e self) in
              let s2 : side T x (par y) ≡ 0 = side_out T (rw e (not_up T bx.0 bx.1)) in
              record {
                half = 1;
                is = omega (
                  arith,
                  one_same {e = row x} {r = r} (sym o.2 ∙ ap row e),
                  ends_sum u v (side T x) ends,
                  s1,
                  s2,
                );
              }
          pick (no m) =
              let s1 : side T x y ≡ side T x (par y) = side_step T by.0 by.1 m in
              record {
                half = side T x y;
                is = omega (
                  arith,
                  one_other {e = row x} {r = r} (λ e. m (row_inj T by.0 by.1 bx.0 bx.1 (o.2 ∙ e))),
                  ends_sum u v (side T x) ends,
                  s1,
                );
              }

  -- a row that leads out from below x, other than x's own, is no node's own
  pub leaves_extra : (x r : ℕ) → Node n a x → r ≢ row x → Leaves T x r → ¬ Own r
  leaves_extra x r bx m L o = pick (ℕ_discrete x o.0)
    where
      y : ℕ
      y = o.0

      by : Node n a y
      by = o.1

      pick : Dec (x ≡ y) → ⊥
      pick (yes q) = m (sym (ap row q ∙ o.2))
      pick (no w) = which (pair_same u v L.joins (rw o.2 at (T.ends y by.0 by.1)))
        where
          which : ((L.p ≡ y) × (L.q ≡ par y)) ⊎ ((L.p ≡ par y) × (L.q ≡ y)) → ⊥
          which (inl f) = L.beside (rw f.1 (up_step T (λ t. w (sym t)) (rw f.0 at L.below)))
          which (inr f) = L.beside (rw f.1 (up by.1 refl (rw f.0 at L.below)))

  -- such a row closes a ring with the tree, and x's own row lies on it
  pub record Closed (x f : ℕ) : Type 0 where
    pub ring : Ring u v k
    pub has_own : In (row x) ring.rs
    pub has_row : In f ring.rs
    pub rest : (r : ℕ) → In r ring.rs → (r ≡ f) ⊎ Own r

  pub close : (x f : ℕ) → Node n a x → f < k → f ≢ row x → Leaves T x f → Closed x f
  close x f bx l m L = make (tree_path L.q L.p fit.1 fit.0)
    where
      fit : (L.p < n) × (L.q < n)
      fit = ends_fit T l L.joins

      differ : L.q ≢ L.p
      differ e = L.beside (rw e L.below)

      make : Simple u v Own L.q L.p → Closed x f
      make t = record { ring = o; has_own = past (has_in own); has_row = at refl; rest = rest }
        where
          ts : List ℕ
          ts = t.0

          d : Distinct ts
          d = once u v t.2 t.3

          o : Ring u v k
          o = record {
            start = L.p;
            rs = f ∷ t.0;
            ns = L.q ∷ t.1;
            closed = go l L.joins (walk_mono u v own_low t.2);
            rows_once = (λ i. leaves_extra x f bx m L (walk_each u v t.2 f i), d);
            nodes_once = t.3;
            two = omega (arith, longer u v t.2 differ);
          }

          own : has (row x) t.0 ≡ 1
          own =
              let e = tree_parity x bx t.2 d in
              omega (arith, e.is, side_in T fit.0 L.below, side_out T L.beside, has_low (row x) t.0)

          rest : (r : ℕ) → In r (f ∷ t.0) → (r ≡ f) ⊎ Own r
          rest r (at q) = inl q
          rest r (past i) = inr (walk_each u v t.2 r i)

  -- two such rows: x's own lies on two rings
  pub two_rings : (x f g : ℕ) → Node n a x → f < k → g < k → f ≢ row x → g ≢ row x → f ≢ g → Leaves T x f → Leaves T x g
      → ¬ OneRing u v k
  two_rings x f g bx lf lg mf mg m Lf Lg o =
      let F = close x f bx lf mf Lf in
      let G = close x g bx lg mg Lg in
      ⊎_elim (λ q. m (sym q)) (leaves_extra x g bx mg Lg)
      (F.rest g (o (row x) G.ring F.ring G.has_own F.has_own g G.has_row))

module _ {u v : ℕ → ℕ} {k n a : ℕ} {par row place : ℕ → ℕ} {T : TreeAt u v k n a par row place} {over : ℕ → ℕ}
    (C : Cuts T over) where
  -- y is of the band of z
  abbrev pub Band : ℕ → ℕ → Type 0
  Band z y = Node n a y × (over y ≡ over z)

  -- the tree's path between the ends of a row across: exactly the own rows of its band
  pub record Circuit (z x y : ℕ) : Type 0 where
    pub ts : List ℕ
    pub ms : List ℕ
    pub walk : Walk u v (Own T) y ts ms x
    pub rows : Distinct ts
    pub only : (r : ℕ) → In r ts → (w : ℕ) × Band z w × (row w ≡ r)
    pub all : (w : ℕ) → Band z w → In (row w) ts

  pub circuit : (z x y : ℕ) → Node n a z → over z < k → Ends u v (over z) x y → Circuit z x y
  circuit z x y bz l e = make (tree_path T y x fit.1 fit.0)
    where
      fit : (x < n) × (y < n)
      fit = ends_fit T l e

      -- on which side of w the two ends are
      sides : (w : ℕ) → side T w x + side T w y ≡ side T w (out C z bz l).p + side T w (out C z bz l).q
      sides w = sym (ends_sum u v (side T w) e) ∙ ends_sum u v (side T w) (out C z bz l).joins

      op : (out C z bz l).p < n
      op = (ends_fit T l (out C z bz l).joins).0

      oq : (out C z bz l).q < n
      oq = (ends_fit T l (out C z bz l).joins).1

      banded : (w : ℕ) → Node n a w → Even (1 + side T w x + side T w y) → over w ≡ over z
      banded w bw h = pick (above? T w (out C z bz l).p op) (above? T w (out C z bz l).q oq)
        where
          pick : Dec (AboveIn a par w (out C z bz l).p) → Dec (AboveIn a par w (out C z bz l).q) → over w ≡ over z
          pick (yes i) (no j) = band_p C z bz l w bw i j
          pick (no i) (yes j) = band_q C z bz l w bw j i
          pick (yes i) (yes j) = absurd (omega (arith, h.is, sides w, side_in T op i, side_in T oq j))
          pick (no i) (no j) = absurd (omega (arith, h.is, sides w, side_out T i, side_out T j))

      crossed : (w : ℕ) → Band z w → side T w x + side T w y ≡ 1
      crossed w g = pick (above? T w (out C z bz l).p op) (above? T w (out C z bz l).q oq)
        where
          L : Leaves T w (over w)
          L = (C.leads w g.0.0 g.0.1 (rw g.1 l)).1

          either : ((L.p ≡ (out C z bz l).p) × (L.q ≡ (out C z bz l).q))
              ⊎ ((L.p ≡ (out C z bz l).q) × (L.q ≡ (out C z bz l).p))
              → AboveIn a par w (out C z bz l).p ⊎ AboveIn a par w (out C z bz l).q
          either (inl f) = inl (rw f.0 at L.below)
          either (inr f) = inr (rw f.0 at L.below)

          some : AboveIn a par w (out C z bz l).p ⊎ AboveIn a par w (out C z bz l).q
          some = either (pair_same u v L.joins (rw g.1 (out C z bz l).joins))

          pick : Dec (AboveIn a par w (out C z bz l).p) → Dec (AboveIn a par w (out C z bz l).q)
              → side T w x + side T w y ≡ 1
          pick (yes i) (no j) = omega (arith, sides w, side_in T op i, side_out T j)
          pick (no i) (yes j) = omega (arith, sides w, side_out T i, side_in T oq j)
          pick (yes i) (yes j) = absurd (band_one C z bz l w g.0 g.1 (i, j))
          pick (no i) (no j) = absurd (⊎_elim i j some)

      make : Simple u v (Own T) y x → Circuit z x y
      make t = record { ts = t.0; ms = t.1; walk = t.2; rows = d; only = only; all = all }
        where
          d : Distinct t.0
          d = once u v t.2 t.3

          only : (r : ℕ) → In r t.0 → (w : ℕ) × Band z w × (row w ≡ r)
          only r i =
              let o = walk_each u v t.2 r i in
              let h : has (row o.0) t.0 ≡ 1 = has_yes (rw o.2 i) in
              let p = tree_parity T o.0 o.1 t.2 d in
              (o.0, (o.1, banded o.0 o.1 (record { half = p.half; is = omega (arith, p.is, h) })), o.2)

          all : (w : ℕ) → Band z w → In (row w) t.0
          all w g =
              let p = tree_parity T w g.0 t.2 d in
              has_in (omega (arith, p.is, crossed w g, has_low (row w) t.0))

  -- no simple path has all rows of a ring
  pub not_full : {x y : ℕ} {rs ns : List ℕ} → Walk u v (First k) x rs ns y → Distinct (x ∷ ns) → (z : ℕ) → Node n a z
      → In (over z) rs → ¬ ((w : ℕ) → Band z w → In (row w) rs)
  not_full {x} {y} {rs} {ns} w d z bz i f = meet (split u v w i)
    where
      l : over z < k
      l = walk_each u v w (over z) i

      meet : Split u v (First k) x y (over z) rs ns → ⊥
      meet s =
          (distinct_parts (x ∷ s.ns1) (s.y ∷ s.ns2) dd).none s.x (end_in u v s.before)
          (follow u v c.walk s.after (distinct_parts (x ∷ s.ns1) (s.y ∷ s.ns2) dd).right c.rows found).0
        where
          c : Circuit z s.x s.y
          c = circuit z s.x s.y bz l s.across

          dd : Distinct ((x ∷ s.ns1) ++ (s.y ∷ s.ns2))
          dd = rw s.nodes at d

          place_of : (r m : ℕ) → In r c.ts → End u v r m → In m (s.y ∷ s.ns2)
              → In r s.rs1 ⊎ In r (over z ∷ s.rs2) → In r s.rs2
          place_of r m j e q (inl h) =
              absurd ((distinct_parts (x ∷ s.ns1) (s.y ∷ s.ns2) dd).none m (touch u v s.before h e) q)
          place_of r m j e q (inr (at h)) =
              let o = c.only r j in
              absurd (over_extra C z o.0 bz o.1.0 (sym h ∙ sym o.2))
          place_of r m j e q (inr (past h)) = h

          found : (r m : ℕ) → In r c.ts → End u v r m → In m (s.y ∷ s.ns2) → In r s.rs2
          found r m j e q =
              let o = c.only r j in
              place_of r m j e q (in_either s.rs1 (rw s.rows at (rw o.2 at (f o.0 o.1))))

  -- a ring has x's own row exactly if it has the row across
  ring_even : (o : Ring u v k) (x : ℕ) → Node n a x → has (row x) o.rs ≡ has (over x) o.rs
  ring_even o x bx =
      let e = cut_parity C x bx o.closed o.rows_once in
      omega (arith, e.is, has_low (row x) o.rs, has_low (over x) o.rs)

  pub ring_over : (o : Ring u v k) (x : ℕ) → Node n a x → In (row x) o.rs → In (over x) o.rs
  ring_over o x bx i = has_in (omega (arith, ring_even o x bx, has_yes i))

  pub ring_own : (o : Ring u v k) (x : ℕ) → Node n a x → In (over x) o.rs → In (row x) o.rs
  ring_own o x bx i = has_in (omega (arith, ring_even o x bx, has_yes i))

  -- all rows of a ring are of one band
  pub ring_rows : (o : Ring u v k) (z : ℕ) → Node n a z → In (over z) o.rs → (r : ℕ) → In r o.rs
      → (r ≡ over z) ⊎ ((w : ℕ) × Band z w × (row w ≡ r))
  ring_rows o z bz i r j = turn (split u v o.closed i)
    where
      l : over z < k
      l = walk_each u v o.closed (over z) i

      turn : Split u v (First k) o.start o.start (over z) o.rs o.ns
          → (r ≡ over z) ⊎ ((w : ℕ) × Band z w × (row w ≡ r))
      turn s = last (in_either s.rs1 (rw s.rows at j))
        where
          c : Circuit z s.x s.y
          c = circuit z s.x s.y bz l s.across

          dd : Distinct (s.ns1 ++ (s.y ∷ s.ns2))
          dd = rw s.nodes at o.nodes_once

          round : Distinct (s.y ∷ (s.ns2 ++ s.ns1))
          round =
              distinct_turn s.ns1 (s.y ∷ s.ns2) dd

          place_of : (q : ℕ) → In q c.ts → In q s.rs1 ⊎ In q (over z ∷ s.rs2) → In q (s.rs2 ++ s.rs1)
          place_of q h (inl g) = in_right s.rs2 g
          place_of q h (inr (at e)) =
              let w = c.only q h in
              absurd (over_extra C z w.0 bz w.1.0 (sym e ∙ sym w.2))
          place_of q h (inr (past g)) = in_left s.rs1 g

          found : (q m : ℕ) → In q c.ts → End u v q m → In m (s.y ∷ (s.ns2 ++ s.ns1)) → In q (s.rs2 ++ s.rs1)
          found q m h e g =
              let w = c.only q h in
              let b : In (over w.0) o.rs = rw w.1.1 i in
              place_of q h (in_either s.rs1 (rw s.rows at (rw w.2 at (ring_own o w.0 w.1.0 b))))

          all : (q : ℕ) → In q (s.rs2 ++ s.rs1) → In q c.ts
          all = (follow u v c.walk (walk_on u v s.after s.before) round c.rows found).1 refl

          last : In r s.rs1 ⊎ In r (over z ∷ s.rs2) → (r ≡ over z) ⊎ ((w : ℕ) × Band z w × (row w ≡ r))
          last (inl h) = inr (c.only r (all r (in_right s.rs2 h)))
          last (inr (at e)) = inl e
          last (inr (past h)) = inr (c.only r (all r (in_left s.rs1 h)))

  -- so no row lies on two rings
  pub one_ring : OneRing u v k
  one_ring r o p i j s h = pick (owned C r (walk_each u v o.closed r i))
    where
      through : (x : ℕ) → Node n a x → In (over x) o.rs → In (over x) p.rs → In s p.rs
      through x bx a b = which (ring_rows o x bx a s h)
        where
          which : (s ≡ over x) ⊎ ((w : ℕ) × Band x w × (row w ≡ s)) → In s p.rs
          which (inl e) = rw e b
          which (inr w) = rw w.2 at (ring_own p w.0 w.1.0 (rw w.1.1 b))

      pick : (x : ℕ) × Node n a x × ((row x ≡ r) ⊎ (over x ≡ r)) → In s p.rs
      pick t = which t.2
        where
          which : (row t.0 ≡ r) ⊎ (over t.0 ≡ r) → In s p.rs
          which (inl e) =
              through t.0 t.1 (ring_over o t.0 t.1 (rw e i)) (ring_over p t.0 t.1 (rw e j))
          which (inr e) = through t.0 t.1 (rw e i) (rw e j)
