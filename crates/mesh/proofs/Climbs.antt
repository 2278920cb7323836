-- The climb from the two ends of a row beside the tree, always from the one that was hung up later, to where they meet:
-- it passes exactly the nodes from below which the row leads out, each once. So after all rows each node has the one
-- row that passes over it, or none; where two pass over one node, its own row lies on two rings.
use Prim.Native.Nat.{ℕ, ◌+◌, ◌-◌, ◌≤◌, ◌<◌}
use mathlib.Core.Path.{◌≡◌, refl, sym, ap, ◌∙◌}
use mathlib.Core.Logic.{◌⊎◌, inl, inr, ◌≢◌}
use mathlib.Core.List.{List}
use native.Mathlib.Omega.{arith}
use native.Mathlib.Decide.{ℕ_discrete}
use lib.ListN.{length, set, length-set}
use lib.Seq.{get_or-set_same, get_or-set_other}
use Rattle.arrays.specs.At.{at}
use Rattle.arrays.specs.work.Filled.{Filled}
use Rattle.net.specs.Graph.{Ends}
use Rattle.mesh.specs.Mesh.{OneRing}
use Rattle.mesh.specs.work.Hung.{AboveIn, self, up, HungAt}
use Rattle.mesh.specs.work.Bands.{LeadsOut, Extra, Later, PassedOver, clear, by, AllPassed, Round}
use Rattle.mesh.proofs.Hung.{Node, place_up, not_up, root_above, up_step, ends_fit}
use Rattle.mesh.proofs.Rings.{two_rings}

-- exactly one of x and y is below t
abbrev pub Parts : ℕ → (ℕ → ℕ) → ℕ → ℕ → ℕ → Type 0
Parts a par t x y = (AboveIn a par t x × ¬ AboveIn a par t y) ⊎ (¬ AboveIn a par t x × AboveIn a par t y)

module _ {u v : ℕ → ℕ} {k n a : ℕ} {par order place : List ℕ} (h : HungAt u v k n a par order place) where
  pub parts_leaving : {t r : ℕ} → Parts a (at par) t (u r) (v r) → LeadsOut u v a (at par) t r
  parts_leaving {r = r} (inl p) =
      record { p = u r; q = v r; joins = inl (refl, refl); below = p.0; beside = p.1 }
  parts_leaving {r = r} (inr p) =
      record { p = v r; q = u r; joins = inr (refl, refl); below = p.1; beside = p.0 }

  pub leaving_parts : {t r : ℕ} → LeadsOut u v a (at par) t r → Parts a (at par) t (u r) (v r)
  leaving_parts {t} {r} l = pick l.joins
    where
      pick : Ends u v r l.p l.q → Parts a (at par) t (u r) (v r)
      pick (inl e) = inl (rw e.0 l.below, rw e.1 l.beside)
      pick (inr e) = inr (rw e.0 l.beside, rw e.1 l.below)

  -- nothing leads out from below the root
  pub root_none : (f : ℕ) → f < k → ¬ LeadsOut u v a (at par) a f
  root_none f l w = w.beside (root_above h.tree w.q (ends_fit h.tree l w.joins).1)

  -- a row beside the tree is no node's own
  pub extra_own : (x r : ℕ) → Node n a x → Extra u v par r → r ≢ h.row x
  extra_own x r b e q = pick (rw q (h.tree.ends x b.0 b.1))
    where
      pick : Ends u v r x (at par x) → ⊥
      pick (inl t) = e.first (rw t.0 (sym t.1))
      pick (inr t) = e.second (rw t.1 (sym t.0))

  pub two_over : (x f g : ℕ) → x < n → f < k → g < k → f ≢ g → Extra u v par f → Extra u v par g
      → LeadsOut u v a (at par) x f → LeadsOut u v a (at par) x g → ¬ OneRing u v k
  two_over x f g b lf lg m ef eg vf vg =
      let N : Node n a x = (b, λ z. root_none f lf (rw z at vf)) in
      two_rings h.tree x f g N lf lg (extra_own x f N ef) (extra_own x g N eg) m vf vg

  -- places tell nodes apart
  same_place : {x y : ℕ} → x < n → y < n → at place x ≡ at place y → x ≡ y
  same_place b c e = sym (h.here _ b).1 ∙ ap (at order) e ∙ (h.here _ c).1

  pub later_less : {x y z : ℕ} → x < n → y < n → x ≢ y → Later place x y z
      → ((z ≡ x) × (at place y < at place x)) ⊎ ((z ≡ y) × (at place x < at place y))
  later_less b c m (inl t) = inr t
  later_less {x} {y} {z} b c m (inr t) = pick (ℕ_discrete (at place x) (at place y))
    where
      pick : Dec (at place x ≡ at place y)
          → ((z ≡ x) × (at place y < at place x)) ⊎ ((z ≡ y) × (at place x < at place y))
      pick (yes e) = absurd (m (same_place b c e))
      pick (no e) = inl (t.0, omega (arith, t.1))

-- where row r is some node's own, or leads not out from below t, it is as before
pub as_before : {u v : ℕ → ℕ} {a : ℕ} {par place : List ℕ} {none r t w : ℕ}
    → (Extra u v par r → ¬ LeadsOut u v a (at par) t r) → PassedOver u v a par place none r t w
    → PassedOver u v a par place none (r + 1) t w
as_before {u} {v} {a} {par} {r = r} {t = t} m (clear q o) = clear q (λ i l e f. old i l e f (ℕ_discrete i r))
  where
    old : (i : ℕ) → i < r + 1 → Extra u v par i → LeadsOut u v a (at par) t i → Dec (i ≡ r) → ⊥
    old i l e f (yes z) = m (rw z at e) (rw z at f)
    old i l e f (no z) = o i (omega arith) e f
as_before {u} {v} {a} {par} {r = r} {t = t} m (by g l e f only q) =
    by g (omega arith) e f (λ i l e f. old i l e f (ℕ_discrete i r)) q
  where
    old : (i : ℕ) → i < r + 1 → Extra u v par i → LeadsOut u v a (at par) t i → Dec (i ≡ r) → i ≡ g
    old i l e f (yes z) = absurd (m (rw z at e) (rw z at f))
    old i l e f (no z) = only i (omega arith) e f

-- Row by row

pub passes_start : {u v : ℕ → ℕ} {n a : ℕ} {par place over : List ℕ} → n ≤ 256 → Filled 256 256 over
    → AllPassed u v n a par place 0 over
passes_start l f =
    record { long = f.long; each = λ x b. clear (f.each x (omega arith)) (λ r h. absurd (omega arith)) }

pub extra_not : {u v : ℕ → ℕ} {par : List ℕ} {r p q d e : ℕ} → p ≡ u r → q ≡ v r → d ≡ at par p → e ≡ at par q
    → (d ≡ q) ⊎ (e ≡ p) → ¬ Extra u v par r
extra_not ep eq ed ee (inl f) x = x.first (rw (ed, ep, eq) at f)
extra_not ep eq ed ee (inr f) x = x.second (rw (ee, ep, eq) at f)

pub passes_skip : {u v : ℕ → ℕ} {n a : ℕ} {par place over : List ℕ} {r : ℕ} → ¬ Extra u v par r
    → AllPassed u v n a par place r over → AllPassed u v n a par place (r + 1) over
passes_skip e s = record { long = s.long; each = λ x b. as_before (λ f. absurd (e f)) (s.each x b) }

-- during the climb for row r, from x and y on: a node is passed, or row r leads out from below it exactly if one of x
-- and y is below it
pub data Way (u v : ℕ → ℕ) (n a : ℕ) (par place : List ℕ) (r x y t w : ℕ) : Type 0 where
  passed : PassedOver u v a par place 256 (r + 1) t w → ¬ AboveIn a (at par) t x → ¬ AboveIn a (at par) t y
      → Way u v n a par place r x y t w
  ahead : PassedOver u v a par place 256 r t w
      → (Parts a (at par) t (u r) (v r) → Parts a (at par) t x y)
      → (Parts a (at par) t x y → Parts a (at par) t (u r) (v r)) → Way u v n a par place r x y t w

pub record Climb (u v : ℕ → ℕ) (k n a : ℕ) (par order place : List ℕ) (r band x y : ℕ) (over : List ℕ) : Type 0 where
  pub hung : HungAt u v k n a par order place
  pub row : r < k
  pub extra : Extra u v par r
  pub name : Later place (u r) (v r) band
  pub fits : (x < n) × (y < n)
  pub long : length over ≡ 256
  pub each : (t : ℕ) → t < n → Way u v n a par place r x y t (at over t)

-- d and e are the parents of p and q
pub round_of : {u v : ℕ → ℕ} {k n a : ℕ} {par order place : List ℕ} {r p q d e : ℕ} {over : List ℕ}
    → HungAt u v k n a par order place → r < k → p ≡ u r → q ≡ v r → d ≡ at par p → e ≡ at par q
    → (d ≢ q) × (e ≢ p) → AllPassed u v n a par place r over → Round u v k n a par order place r p q over
round_of h l ep eq ed ee x s =
    record {
      hung = h;
      row = l;
      ends = (ep, eq);
      extra = record { first = rw (ed, ep, eq) at x.0; second = rw (ee, ep, eq) at x.1 };
      done = s;
    }

pub climb_start : {u v : ℕ → ℕ} {k n a : ℕ} {par order place : List ℕ} {r p q band : ℕ} {over : List ℕ}
    → Round u v k n a par order place r p q over → Later place p q band
    → Climb u v k n a par order place r band p q over
climb_start {u} {v} {n = n} {a} {par} {place = place} {r = r} {over = over} c l =
    record {
      hung = c.hung;
      row = c.row;
      extra = c.extra;
      name = rw (c.ends.0, c.ends.1) at l;
      fits = (rw c.ends.0 (c.hung.rows.first r c.row), rw c.ends.1 (c.hung.rows.second r c.row));
      long = c.done.long;
      each = λ t b. rw (c.ends.0, c.ends.1) (ahead (c.done.each t b) (λ e. e) (λ e. e));
    }

module _ {u v : ℕ → ℕ} {k n a : ℕ} {par order place : List ℕ} {r band x y : ℕ} {over : List ℕ}
    (c : Climb u v k n a par order place r band x y over) where
  abbrev H : HungAt u v k n a par order place
  H = c.hung

  abbrev Ab : ℕ → ℕ → Type 0
  Ab = AboveIn a (at par)

  -- one step up from z, the later of x and y; o is the other
  module _ (z o : ℕ) (bz : z < n) (bo : o < n) (less : at place o < at place z)
      (which : ((z ≡ x) × (o ≡ y)) ⊎ ((z ≡ y) × (o ≡ x))) where
    z_root : z ≢ a
    z_root e =
        let t : at place a ≡ 0 = rw H.top.0 at (H.back 0 (omega (arith, bz))) in
        omega (arith, t, ap (at place) e)

    z_o : ¬ Ab z o
    z_o i = omega (arith, place_up H.tree bo i)

    -- what holds of x and y holds of z and o
    swap : {t : ℕ} → Parts a (at par) t x y → Parts a (at par) t z o
    swap {t} s = pick which s
      where
        pick : ((z ≡ x) × (o ≡ y)) ⊎ ((z ≡ y) × (o ≡ x)) → Parts a (at par) t x y
            → Parts a (at par) t z o
        pick (inl e) s = rw (e.0, e.1) s
        pick (inr e) (inl s) = inr (rw (e.0, e.1) (s.1, s.0))
        pick (inr e) (inr s) = inl (rw (e.0, e.1) (s.1, s.0))

    back : {t : ℕ} → Parts a (at par) t z o → Parts a (at par) t x y
    back {t} s = pick which s
      where
        pick : ((z ≡ x) × (o ≡ y)) ⊎ ((z ≡ y) × (o ≡ x)) → Parts a (at par) t z o
            → Parts a (at par) t x y
        pick (inl e) s = rw (← e.0, ← e.1) s
        pick (inr e) (inl s) = inr (rw (← e.0, ← e.1) (s.1, s.0))
        pick (inr e) (inr s) = inl (rw (← e.0, ← e.1) (s.1, s.0))

    -- z lies ahead, and row r leads out from below it
    z_ahead : PassedOver u v a par place 256 r z (at over z) × LeadsOut u v a (at par) z r
    z_ahead = pick (c.each z bz)
      where
        not_passed : ¬ Ab z x → ¬ Ab z y → ((z ≡ x) × (o ≡ y)) ⊎ ((z ≡ y) × (o ≡ x)) → ⊥
        not_passed m l (inl e) = m (rw e.0 self)
        not_passed m l (inr e) = l (rw e.0 self)

        pick : Way u v n a par place r x y z (at over z)
            → PassedOver u v a par place 256 r z (at over z) × LeadsOut u v a (at par) z r
        pick (passed p m l) = absurd (not_passed m l which)
        pick (ahead p f g) = (p, parts_leaving H (g (back (inl (self, z_o)))))

    -- passed already: two rows pass over it
    pub climb_two : at over z ≢ 256 → ¬ OneRing u v k
    climb_two m = pick z_ahead.0
      where
        pick : PassedOver u v a par place 256 r z (at over z) → ¬ OneRing u v k
        pick (clear e f) = absurd (m e)
        pick (by f l e w only t) =
            two_over H z f r bz (omega (arith, c.row)) c.row (omega arith) e c.extra w z_ahead.1

    -- it is passed now
    now_passed : at over z ≡ 256 → PassedOver u v a par place 256 (r + 1) z band
    now_passed m = by r (omega arith) c.extra z_ahead.1 (λ i l e w. pick i l e w (ℕ_discrete i r)) c.name
      where
        none : PassedOver u v a par place 256 r z (at over z) → (i : ℕ) → i < r → Extra u v par i
            → ¬ LeadsOut u v a (at par) z i
        none (clear e f) = f
        none (by f l e w only t) = absurd (named (c.hung.rows.first f (omega (arith, c.row)))
            (c.hung.rows.second f (omega (arith, c.row))) t)
          where
            named : u f < n → v f < n → Later place (u f) (v f) (at over z) → ⊥
            named p q (inl t) = omega (arith, t.0, H.few)
            named p q (inr t) = omega (arith, t.0, H.few)

        pick : (i : ℕ) → i < r + 1 → Extra u v par i → LeadsOut u v a (at par) z i → Dec (i ≡ r) → i ≡ r
        pick i l e w (yes q) = q
        pick i l e w (no q) = absurd (none z_ahead.0 i (omega arith) e w)

    pub climb_next : at over z ≡ 256
        → Climb u v k n a par order place r band (at par z) o (set over z band)
    climb_next m =
        record {
          hung = H;
          row = c.row;
          extra = c.extra;
          name = c.name;
          fits = (H.tree.fits z bz z_root, bo);
          long = length-set over z band ∙ c.long;
          each = λ t b. each t b (ℕ_discrete t z);
        }
      where
        same : at (set over z band) z ≡ band
        same = get_or-set_same over z band 0 (omega (arith, bz, H.few, c.long))

        -- above another node than z as before
        rise : {t : ℕ} → t ≢ z → Parts a (at par) t z o
            → Parts a (at par) t (at par z) o
        rise q (inl s) = inl (up_step H.tree (λ e. q (sym e)) s.0, s.1)
        rise q (inr s) = inr (λ i. s.0 (up z_root refl i), s.1)

        fall : {t : ℕ} → t ≢ z → Parts a (at par) t (at par z) o
            → Parts a (at par) t z o
        fall q (inl s) = inl (up z_root refl s.0, s.1)
        fall q (inr s) = inr (λ i. s.0 (up_step H.tree (λ e. q (sym e)) i), s.1)

        -- neither is below a node that is passed
        above_none : {t : ℕ} → ¬ Ab t x → ¬ Ab t y → ¬ Ab t z × ¬ Ab t o
        above_none {t} p q = pick which
          where
            pick : ((z ≡ x) × (o ≡ y)) ⊎ ((z ≡ y) × (o ≡ x)) → ¬ Ab t z × ¬ Ab t o
            pick (inl e) = (rw e.0 p, rw e.1 q)
            pick (inr e) = (rw e.0 q, rw e.1 p)

        each : (t : ℕ) → t < n → Dec (t ≡ z) → Way u v n a par place r (at par z) o t (at (set over z band) t)
        each t b (yes e) = rw (e, same) (passed (now_passed m) (not_up H.tree bz z_root) z_o)
        each t b (no q) = rw (get_or-set_other over z t band 0 q) (pick (c.each t b))
          where
            pick : Way u v n a par place r x y t (at over t) → Way u v n a par place r (at par z) o t (at over t)
            pick (passed p f g) =
                let w = above_none f g in passed p (λ i. w.0 (up z_root refl i)) w.1
            pick (ahead p f g) = ahead p (λ s. rise q (swap (f s))) (λ s. g (back (fall q s)))

  -- where they meet, the rest is not passed over
  pub climb_end : x ≡ y → AllPassed u v n a par place (r + 1) over
  climb_end e = record { long = c.long; each = λ t b. pick t (c.each t b) }
    where
      none : {t : ℕ} → Parts a (at par) t x y → ⊥
      none (inl s) = s.1 (rw e at s.0)
      none (inr s) = s.0 (rw e s.1)

      pick : (t : ℕ) → Way u v n a par place r x y t (at over t) → PassedOver u v a par place 256 (r + 1) t (at over t)
      pick t (passed p f g) = p
      pick t (ahead p f g) = as_before (λ e w. none (f (leaving_parts H w))) p

-- the step of the loop: z is the later of x and y, what is left of the two is the other
module _ {u v : ℕ → ℕ} {k n a : ℕ} {par order place : List ℕ} {r band x y : ℕ} {over : List ℕ}
    (c : Climb u v k n a par order place r band x y over) (m : x ≢ y) (z : ℕ) (t : Later place x y z) where
  record Step : Type 0 where
    fits : (z < n) × (x + y - z < n)
    low : z ≤ x + y
    less : at place (x + y - z) < at place z
    which : ((z ≡ x) × (x + y - z ≡ y)) ⊎ ((z ≡ y) × (x + y - z ≡ x))

  step : Step
  step = pick (later_less c.hung c.fits.0 c.fits.1 m t)
    where
      pick : ((z ≡ x) × (at place y < at place x)) ⊎ ((z ≡ y) × (at place x < at place y)) → Step
      pick (inl e) =
          let q : x + y - z ≡ y = omega (arith, e.0) in
          record {
            fits = (rw e.0 c.fits.0, rw q c.fits.1);
            low = omega (arith, e.0);
            less = rw (q, e.0) e.1;
            which = inl (e.0, q);
          }
      pick (inr e) =
          let q : x + y - z ≡ x = omega (arith, e.0) in
          record {
            fits = (rw e.0 c.fits.1, rw q c.fits.0);
            low = omega (arith, e.0);
            less = rw (q, e.0) e.1;
            which = inr (e.0, q);
          }

  pub step_fits : (z < n) × (z ≤ x + y)
  step_fits = (step.fits.0, step.low)

  pub step_two : at over z ≢ 256 → ¬ OneRing u v k
  step_two = climb_two c z (x + y - z) step.fits.0 step.fits.1 step.less step.which

  pub step_next : at over z ≡ 256 → Climb u v k n a par order place r band (at par z) (x + y - z) (set over z band)
  step_next = climb_next c z (x + y - z) step.fits.0 step.fits.1 step.less step.which

  pub step_less : at place (at par z) + at place (x + y - z) < at place x + at place y
  step_less = pick step.which
    where
      up_less : at place (at par z) < at place z
      up_less =
          c.hung.tree.earlier z step.fits.0
          (z_root c z (x + y - z) step.fits.0 step.fits.1 step.less step.which)

      pick : ((z ≡ x) × (x + y - z ≡ y)) ⊎ ((z ≡ y) × (x + y - z ≡ x))
          → at place (at par z) + at place (x + y - z) < at place x + at place y
      pick (inl e) = omega (arith, up_less, ap (at place) e.0, ap (at place) e.1)
      pick (inr e) = omega (arith, up_less, ap (at place) e.0, ap (at place) e.1)

  pub band_low : band < n
  band_low = pick c.name
    where
      pick : Later place (u r) (v r) band → band < n
      pick (inl e) = rw e.0 (c.hung.rows.second r c.row)
      pick (inr e) = rw e.0 (c.hung.rows.first r c.row)
