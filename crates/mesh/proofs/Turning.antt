-- The tree of node 0 hung up at another node: first the climb to node 0, turned round, each node below the one before
-- it; then every other node below its old parent, which hangs already, since its old place is earlier.
use Prim.Native.Nat.{ℕ, ◌+◌, ◌≤◌, ◌<◌}
use mathlib.Core.Path.{◌≡◌, sym, ap, ◌∙◌}
use mathlib.Core.Logic.{inl, inr, ◌≢◌}
use mathlib.Core.List.{List}
use native.Mathlib.Omega.{arith}
use native.Mathlib.Decide.{ℕ_discrete}
use lib.ListN.{set}
use lib.Seq.{get_or-set_same, get_or-set_other}
use Rattle.arrays.specs.At.{at}
use Rattle.net.specs.Graph.{Ends}
use Rattle.mesh.specs.work.Hung.{HungAt}
use Rattle.mesh.proofs.Growing.{HungSoFar, Ready, room, grown_push, all_hung}

-- x is the last node hung up on the climb; all that hang have old places from x's on
pub record Climbing (u v : ℕ → ℕ) (k n a : ℕ) (place0 : List ℕ) (m x : ℕ) (par order place : List ℕ) : Type 0 where
  pub grown : HungSoFar u v k n a m par order place
  pub here : (x < n) × (at place x ≢ 256)
  pub later : (y : ℕ) → y < 256 → at place y ≢ 256 → at place0 x ≤ at place0 y

-- the other nodes follow in the old order: those at the old places below i hang
pub record Turning (u v : ℕ → ℕ) (k n a : ℕ) (order0 : List ℕ) (m i : ℕ) (par order place : List ℕ) : Type 0 where
  pub grown : HungSoFar u v k n a m par order place
  pub within : (0 < i) × (i ≤ n)
  pub done : (j : ℕ) → j < i → at place (at order0 j) ≢ 256

module _ {u v : ℕ → ℕ} {k n a : ℕ} {par0 order0 place0 : List ℕ} (h : HungAt u v k n 0 par0 order0 place0) where
  pub climbing_start : {par order place : List ℕ} → HungSoFar u v k n a 1 par order place
      → Climbing u v k n a place0 1 a par order place
  climbing_start {order = order} {place = place} g =
      record {
        grown = g;
        here = (g.root, λ e. omega (arith, g.top.1));
        later = λ y b e. let f = g.here y b e in rw (root y f.0 f.1) (omega arith);
      }
    where
      root : (y : ℕ) → at place y < 1 → at order (at place y) ≡ y → y ≡ a
      root y l e = let z : at place y ≡ 0 = omega arith in sym (rw z at e) ∙ g.top.0

  module _ {m x : ℕ} {par order place : List ℕ} (s : Climbing u v k n a place0 m x par order place) (z : x ≢ 0) where
    abbrev p : ℕ
    p = at par0 x

    up : at place0 p < at place0 x
    up = h.tree.earlier x s.here.0 z

    p_fits : p < n
    p_fits = h.tree.fits x s.here.0 z

    pub climbing_ready : Ready u v k n a m par order place p x
    climbing_ready =
        record {
          grown = s.grown;
          joins = (h.row x, h.tree.row_fits x s.here.0 z, ends (h.tree.ends x s.here.0 z));
          new = (p_fits, new (ℕ_discrete (at place p) 256));
          old = s.here;
        }
      where
        ends : Ends u v (h.row x) x p → Ends u v (h.row x) p x
        ends (inl e) = inr e
        ends (inr e) = inl e

        new : Dec (at place p ≡ 256) → at place p ≡ 256
        new (yes e) = e
        new (no e) = absurd (omega (arith, s.later p (omega (arith, p_fits, h.few)) e, up))

    pub climbing_next : Climbing u v k n a place0 (m + 1) p (set par p x) (set order m p) (set place p m)
    climbing_next =
        record {
          grown = grown_push climbing_ready;
          here = (p_fits, λ e. omega (arith, same, room climbing_ready));
          later = λ y b e. pick y b e (ℕ_discrete y p);
        }
      where
        same : at (set place p m) p ≡ m
        same = get_or-set_same place p m 0 (omega (arith, p_fits, h.few, s.grown.long.2))

        pick : (y : ℕ) → y < 256 → at (set place p m) y ≢ 256 → Dec (y ≡ p) → at place0 p ≤ at place0 y
        pick y b e (yes q) = rw q (omega arith)
        pick y b e (no q) = omega (arith, up, s.later y b (rw (get_or-set_other place p y m 0 q) at e))

  pub turning_start : {m x : ℕ} {par order place : List ℕ} → Climbing u v k n a place0 m x par order place → ¬ (x ≢ 0)
      → Turning u v k n a order0 m 1 par order place
  turning_start {x = x} {place = place} s z =
      record {
        grown = s.grown;
        within = (omega arith, omega (arith, s.grown.root));
        done = λ j l. let e : j ≡ 0 = omega arith in rw (e, h.top.0) (rw (at_zero (ℕ_discrete x 0)) at s.here.1);
      }
    where
      at_zero : Dec (x ≡ 0) → x ≡ 0
      at_zero (yes e) = e
      at_zero (no e) = absurd (z e)

  module _ {m i : ℕ} {par order place : List ℕ} (s : Turning u v k n a order0 m i par order place) (l : i < n) where
    abbrev y : ℕ
    y = at order0 i

    pub y_fits : y < n
    y_fits = h.within i l

    pub turning_skip : at place y ≢ 256 → Turning u v k n a order0 m (i + 1) par order place
    turning_skip e =
        record { grown = s.grown; within = (omega arith, omega arith); done = λ j b. pick j b (ℕ_discrete j i) }
      where
        pick : (j : ℕ) → j < i + 1 → Dec (j ≡ i) → at place (at order0 j) ≢ 256
        pick j b (yes q) = rw q e
        pick j b (no q) = s.done j (omega arith)

    y_other : y ≢ 0
    y_other e =
        let t : at place0 0 ≡ 0 = rw h.top.0 at (h.back 0 (omega arith)) in
        omega (arith, h.back i l, s.within.0, t, ap (at place0) e)

    q_place : at place0 (at par0 y) < i
    q_place = omega (arith, h.tree.earlier y y_fits y_other, h.back i l)

    pub turning_ready : at place y ≡ 256 → Ready u v k n a m par order place y (at par0 y)
    turning_ready e =
        record {
          grown = s.grown;
          joins = (h.row y, h.tree.row_fits y y_fits y_other, h.tree.ends y y_fits y_other);
          new = (y_fits, e);
          old = (
            h.tree.fits y y_fits y_other,
            rw (h.here (at par0 y) (h.tree.fits y y_fits y_other)).1 at (s.done (at place0 (at par0 y)) q_place),
          );
        }

    pub turning_next : at place y ≡ 256
        → Turning u v k n a order0 (m + 1) (i + 1) (set par y (at par0 y)) (set order m y) (set place y m)
    turning_next e =
        record {
          grown = grown_push (turning_ready e);
          within = (omega arith, omega arith);
          done = λ j b. pick j b (ℕ_discrete j i);
        }
      where
        same : at (set place y m) y ≡ m
        same = get_or-set_same place y m 0 (omega (arith, y_fits, h.few, s.grown.long.2))

        pick : (j : ℕ) → j < i + 1 → Dec (j ≡ i) → at (set place y m) (at order0 j) ≢ 256
        pick j b (yes q) f = omega (arith, room (turning_ready e), same, rw q at f)
        pick j b (no q) f =
            let o = s.done j (omega arith) in
            o (sym (get_or-set_other place y (at order0 j) m 0 (λ g. o (rw g e))) ∙ f)

  pub turning_end : {m i : ℕ} {par order place : List ℕ} → Turning u v k n a order0 m i par order place → ¬ (i < n)
      → HungAt u v k n a par order place
  turning_end {place = place} s e = all_hung s.grown h.rows all
    where
      all : (x : ℕ) → x < n → at place x ≢ 256
      all x b = let t = h.here x b in rw t.1 at (s.done (at place0 x) (omega (arith, t.0)))
