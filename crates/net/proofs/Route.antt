-- Two climbs: the simple path between two nodes whose climbs meet at t goes up the one and down the other. Its nodes
-- are those of the two climbs, and a sum along it, of naturals (lengths) or signed (weights), is that of the two climbs
-- less twice that of t.
use Prim.Native.Nat.{ℕ, ◌+◌, ◌*◌, ◌<◌}
use mathlib.Core.Path.{◌≡◌, refl, ap}
use mathlib.Core.Logic.{◌⊎◌, inl, inr, ◌≢◌, ⊎_elim}
use mathlib.Core.List.{List, [], ◌∷◌, ◌++◌}
use native.Mathlib.Omega.{arith}
use lib.IntN.{ℤ}
use Rattle.table.specs.work.Diff.{Diff}
use Rattle.table.specs.work.Diff as signed
use Rattle.table.proofs.Lift as lift
use Rattle.arrays.specs.Members.{In, at, Distinct}
use Rattle.net.specs.Graph.{First, Walk, stop}
use Rattle.net.specs.Path.{Sum}
use Rattle.net.specs.Value.{Total, Value}
use Rattle.net.specs.work.Rooted.{Above, self, up, Passed, Rooted}
use Rattle.arrays.proofs.Members.{not_nil, in_one, in_left, in_right, in_either}
use Rattle.net.proofs.Rooted.{above_inv, sum_snoc, away_up, away_down}
use Rattle.net.proofs.Values.{total_snoc}
use Rattle.net.proofs.Above.{Tree, above_trans, above_anti, fits_up, place_up}
use Rattle.net.proofs.Climbs.{step_split}

-- d x is the sum of f along the climb from x to the root
abbrev pub Sums : (ℕ → ℕ) → (ℕ → ℕ) → ℕ → (ℕ → ℕ) → (ℕ → ℕ) → Type 0
Sums par row n f d = (x : ℕ) → x < n → x ≢ 0 → d x ≡ d (par x) + f (row x)

-- e x − e 0 is the signed sum of g along that climb: e is it lifted
abbrev pub Totals : (ℕ → ℕ) → (ℕ → ℕ) → ℕ → (ℕ → ℤ) → (ℕ → ℕ) → Type 0
Totals par row n g e = (x : ℕ) → x < n → x ≢ 0 → Diff (e x) (e (par x)) (g (row x))

-- the signed sum of no rows, lifted by any number
pub nothing : (g : ℕ → ℤ) (a : ℕ) → Diff a a (Total g [])
unfolding Total
nothing g a = signed.up 0 (omega arith)

module _ {u v : ℕ → ℕ} {k n : ℕ} {par row place : ℕ → ℕ} (R : Rooted u v k n par row place) (T : Tree n par place) where
  -- one climb
  record Up (x w : ℕ) : Type 0 where
    rows : List ℕ
    nodes : List ℕ
    walk : Walk u v (First k) x rows nodes w
    once : Distinct (x ∷ nodes)
    above : Above par w x
    only : (z : ℕ) → In z (x ∷ nodes) → Above par w z × Above par z x
    all : (z : ℕ) → Above par w z → Above par z x → In z (x ∷ nodes)
    sum : (f d : ℕ → ℕ) → Sums par row n f d → Sum f rows + d w ≡ d x
    total : (g : ℕ → ℤ) (e : ℕ → ℕ) → Totals par row n g e → Diff (e x) (e w) (Total g rows)

  up_start : (x : ℕ) → x < n → Up x x
  up_start x b = record {
    rows = [];
    nodes = [];
    walk = stop;
    once = (not_nil, tt);
    above = self;
    only = only;
    all = λ z h g. at (above_anti T b g h);
    sum = λ f d s. omega arith;
    total = λ g e s. nothing g (e x);
  }
    where
      only : (z : ℕ) → In z (x ∷ []) → Above par x z × Above par z x
      only z i = let e = in_one i in (rw e self, rw e self)

  up_step : {x w : ℕ} → x < n → w ≢ 0 → Up x w → Up x (par w)
  up_step {x} {w} b q p =
      let fw : w < n = fits_up T b p.above in
      let a = away_up u v R w fw q p.above p.walk p.once in
      record {
        rows = p.rows ++ (row w ∷ []);
        nodes = p.nodes ++ (par w ∷ []);
        walk = a.0;
        once = a.1;
        above = above_trans (up q refl self) p.above;
        only = λ z i. ⊎_elim (λ j. let o = p.only z j in (above_trans (up q refl self) o.0, o.1)) (λ j. last z j)
            (in_either (x ∷ p.nodes) i);
        all = λ z h g. ⊎_elim (λ s. in_left (par w ∷ []) (p.all z s g)) (λ e. in_right (x ∷ p.nodes) (at e))
            (step_split T b q p.above h g);
        sum = λ f d s. omega (arith, sum_snoc f p.rows (row w), p.sum f d s, s w fw q);
        total = λ g e s. rw (total_snoc g p.rows (row w))
            (lift.same (omega arith) (lift.sum (p.total g e s) (s w fw q)));
      }
    where
      last : (z : ℕ) → In z (par w ∷ []) → Above par (par w) z × Above par z x
      last z i = let e = in_one i in (rw e self, rw e (above_trans (up q refl self) p.above))

  climb : {t w x : ℕ} → x < n → Up x w → Above par t w → Up x t
  climb b p self = p
  climb b p (up q e h) = climb b (rw e at (up_step b q p)) h

  -- both
  pub record Route (t x y : ℕ) : Type 0 where
    pub rows : List ℕ
    pub nodes : List ℕ
    pub walk : Walk u v (First k) x rows nodes y
    pub once : Distinct (x ∷ nodes)
    pub only : (z : ℕ) → In z (x ∷ nodes) → Above par t z × (Above par z x ⊎ Above par z y)
    pub all : (z : ℕ) → Above par t z → Above par z x ⊎ Above par z y → In z (x ∷ nodes)
    pub sum : (f d : ℕ → ℕ) → Sums par row n f d → Sum f rows + 2 * d t ≡ d x + d y
    pub total : (g : ℕ → ℤ) (e : ℕ → ℕ) → Totals par row n g e → Diff (e x + e y) (2 * e t) (Total g rows)

  pub route : {t x y : ℕ} → x < n → y < n → Above par t x → Above par t y
      → ((z : ℕ) → Passed par t x z → Passed par t y z → ⊥) → Route t x y
  route {t} {x} b c h self n =
      let p = climb b (up_start x b) h in
      record {
        rows = p.rows;
        nodes = p.nodes;
        walk = p.walk;
        once = p.once;
        only = λ z i. let o = p.only z i in (o.0, inl o.1);
        all = λ z g s. p.all z g (⊎_elim (λ a. a) (λ a. above_trans a h) s);
        sum = λ f d s. omega (arith, p.sum f d s);
        total = λ g e s. lift.same (omega arith) (p.total g e s);
      }
  route {t} {x} {y} b c h (up {y = m} q e j) dis =
      more
      (route b (rw e at (T.fits y c q)) h j
      (λ z f g. dis z f (record { above = up q e g.above; below = g.below; not = g.not })))
    where
      below : y ≢ t
      below s = omega (arith, place_up T (rw e at (T.fits y c q)) j, rw e at (T.earlier y c q), ap place s)

      out : ¬ Above par y x
      out a =
          dis y (record { above = a; below = up q e j; not = below })
          (record { above = self; below = up q e j; not = below })

      last : (z : ℕ) → In z (y ∷ []) → Above par t z × (Above par z x ⊎ Above par z y)
      last z i = let s = in_one i in (rw s (up q e j), inr (rw s self))

      wider : {z : ℕ} → Above par z x ⊎ Above par z m → Above par z x ⊎ Above par z y
      wider (inl a) = inl a
      wider (inr a) = inr (up q e a)

      more : Route t x m → Route t x y
      more p =
          let w : Walk u v (First k) x p.rows p.nodes (par y) = rw e p.walk in
          let a = away_down u v R y c q out w p.once in
          record {
            rows = p.rows ++ (row y ∷ []);
            nodes = p.nodes ++ (y ∷ []);
            walk = a.0;
            once = a.1;
            only = λ z i. ⊎_elim (λ j. let o = p.only z j in (o.0, wider o.1)) (λ j. last z j)
                (in_either (x ∷ p.nodes) i);
            all = all;
            sum = λ f d s. omega (arith, sum_snoc f p.rows (row y), p.sum f d s, s y c q, ap d e);
            total = λ g o s. rw (total_snoc g p.rows (row y))
                (lift.same (omega (arith, ap o e)) (lift.sum (p.total g o s) (s y c q)));
          }
        where
          all : (z : ℕ) → Above par t z → Above par z x ⊎ Above par z y → In z (x ∷ (p.nodes ++ (y ∷ [])))
          all z g (inl a) = in_left (y ∷ []) (p.all z g (inl a))
          all z g (inr a) =
              ⊎_elim (λ s. in_right (x ∷ p.nodes) (at s)) (λ s. in_left (y ∷ []) (p.all z g (inr (rw e at s.1))))
              (above_inv a)

  -- it has a length and a weight
  pub route_value : {long : ℕ → ℕ} {heavy : ℕ → ℤ} {t x y : ℕ} (r : Route t x y)
      → Value u v k long heavy x y (Sum long r.rows) (Total heavy r.rows)
  route_value r = record { rows = r.rows; path = (r.nodes, r.walk, r.once); length = refl; weight = refl }
