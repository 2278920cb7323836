-- Hops are the heads that two climbs pass, and one: a path has one number of hops, and never more than 1 + 2 ×
-- floor(log2 of the number of leaves).
use Prim.Native.Nat.{ℕ, zero, suc, ◌+◌, ◌*◌, ◌≤◌, ◌<◌}
use mathlib.Core.Path.{◌≡◌, refl}
use mathlib.Core.Logic.{◌⊎◌, inl, inr, ◌≢◌}
use mathlib.Core.List.{List}
use native.Mathlib.Omega.{arith}
use native.Mathlib.Decide.{ℕ_discrete}
use Rattle.arrays.specs.At.{at}
use Rattle.net.specs.Count.{Count}
use Rattle.net.specs.work.Forest.{Forest}
use Rattle.net.specs.work.Rooted.{Above, self, up, Passed, Rooted}
use Rattle.net.proofs.Counts.{count_unique, count_same}
use Rattle.net.proofs.OnePath.{unique}
use Rattle.net.proofs.Flip.{flip}
use Rattle.net.proofs.Rooted.{above_inv}
use Rattle.net.proofs.Above.{Tree, fits_up}
use Rattle.net.proofs.Climbs.{none_passed, root_above}
use Rattle.net.proofs.Route.{route}
use Rattle.spines.specs.Spine.{ChildOf, Leaf, Leaves}
use Rattle.spines.specs.Hops.{Hops}
use Rattle.spines.specs.FloorLog.{FloorLog}
use Rattle.spines.specs.work.Parents.{Child, HopsBy}
use Rattle.spines.specs.work.Climbs.{Leaving}
use Rattle.spines.proofs.Below.{leaf_under}
use Rattle.spines.proofs.Leaves.{leaves_up, above?, many, many_leaves}
use Rattle.spines.proofs.Rising.{rising_some, heads_count, bounded}
use Rattle.spines.proofs.Same.{same_leaf, same_touched}
use Rattle.spines.proofs.Net.{child_net, net_child}

-- one number of hops
pub hops_only : {u v : ℕ → ℕ} {k n x y h g : ℕ} → Forest u v k → Hops u v k n x y h → Hops u v k n x y g → h ≡ g
hops_only {u} {v} F p q =
    count_unique p.touches (rw (unique u v F p.path.1 q.path.1 p.path.2 q.path.2).1 q.touches)

-- and one by a walk's arrays, of any net that hangs so
pub hops_by_only : {u v row : ℕ → ℕ} {k n x y h g : ℕ} {parent place : List ℕ}
    → Rooted u v k n (at parent) row (at place) → HopsBy n parent place x y h → HopsBy n parent place x y g → h ≡ g
hops_by_only {u} {v} {row} {k} R p q = hops_only R.forest (p.hops u v k row R) (q.hops u v k row R)

-- the same either way
pub hops_flip : {u v : ℕ → ℕ} {k n x y h : ℕ} → Hops u v k n x y h → Hops u v k n y x h
hops_flip {u} {v} p =
    let f = flip u v p.path.1 in
    record {
      rows = f.rows;
      path = (f.nodes, f.walk, f.once p.path.2);
      touches = count_same (λ h t. record { node = t.node; on = f.fro t.node t.on; head = t.head })
          (λ h t. record { node = t.node; on = f.to t.node t.on; head = t.head }) p.touches;
    }

-- any two nodes' climbs meet, and pass nothing in common before
pub record Meeting (par : ℕ → ℕ) (x y t : ℕ) : Type 0 where
  pub left : Above par t x
  pub right : Above par t y
  pub apart : (z : ℕ) → Passed par t x z → Passed par t y z → ⊥

meet_some : {n : ℕ} {par place : ℕ → ℕ} → Tree n par place → (x y : ℕ) → x < n → y < n → (t : ℕ) × Meeting par x y t
meet_some {n} {par} {place} T x y b c = climb (suc (place x)) x b (omega arith)
  where
    climb : (m x : ℕ) → x < n → place x < m → (t : ℕ) × Meeting par x y t
    climb zero x b l = absurd (omega arith)
    climb (suc m) x b l = pick (above? T x (suc (place y)) y c (omega arith)) (ℕ_discrete x 0) (climb m (par x))
      where
        pick : Dec (Above par x y) → Dec (x ≡ 0) → (par x < n → place (par x) < m → (t : ℕ) × Meeting par (par x) y t)
            → (t : ℕ) × Meeting par x y t
        pick (yes a) z ih = (x, record { left = self; right = a; apart = λ w h g. none_passed T b h })
        pick (no a) (yes z) ih = absurd (a (rw z (root_above T y c)))
        pick (no a) (no z) ih = further (ih (T.fits x b z) (omega (arith, T.earlier x b z)))
          where
            further : (t : ℕ) × Meeting par (par x) y t → (t : ℕ) × Meeting par x y t
            further s = (
              s.0,
              record {
                left = up z refl s.1.left;
                right = s.1.right;
                apart = λ w h g. later w h g (above_inv h.above);
              },
            )
              where
                later : (w : ℕ) → Passed par s.0 x w → Passed par s.0 y w
                    → (w ≡ x) ⊎ ((x ≢ 0) × Above par w (par x)) → ⊥
                later w h g (inl e) = a (rw e at g.above)
                later w h g (inr k) = s.1.apart w (record { above = k.1; below = h.below; not = h.not }) g

module _ {u v : ℕ → ℕ} {k n : ℕ} {par row place : ℕ → ℕ} (R : Rooted u v k n par row place) (T : Tree n par place)
    (some : 0 < n) where
  -- where the climbs meet, 1 + i + j spines are touched
  pub hops_met : {x y t i j : ℕ} → x < n → y < n → Above par t x → Above par t y
      → ((z : ℕ) → Passed par t x z → Passed par t y z → ⊥) → Count (Leaving n par t x) i → Count (Leaving n par t y) j
      → Hops u v k n x y (1 + (i + j))
  hops_met bx by left right apart p q =
      let r = route R T bx by left right apart in
      record {
        rows = r.rows;
        path = (r.nodes, r.walk, r.once);
        touches = count_same
            (λ h a. same_touched (child_net R T some) (net_child R T some) _ h
            (record { node = a.node; on = r.all a.node a.below a.above; head = a.head }))
            (λ h a.
            let b = same_touched (net_child R T some) (child_net R T some) _ h a in
            let o = r.only b.node b.on in
            record { node = b.node; below = o.0; above = o.1; head = b.head })
            (heads_count T bx by left p q apart);
      }

  -- the leaves of the net are those below the root
  root_leaves : (a : ℕ) → Count (Leaf (ChildOf u v k n) n) a → Leaves (Child n par) n 0 a
  root_leaves a l =
      count_same
      (λ x h. leaf_under T (same_leaf (net_child R T some) (child_net R T some) x h) (root_above T x h.fits))
      (λ x h. same_leaf (child_net R T some) (net_child R T some) x h.leaf) l

  pub leaves_root : (a : ℕ) → Leaves (Child n par) n 0 a → Count (Leaf (ChildOf u v k n) n) a
  leaves_root a l =
      count_same (λ x h. same_leaf (child_net R T some) (net_child R T some) x h.leaf)
      (λ x h. leaf_under T (same_leaf (net_child R T some) (child_net R T some) x h) (root_above T x h.fits)) l

  pub hops_bound : (x y h a c : ℕ) → x < n → y < n → Hops u v k n x y h → Count (Leaf (ChildOf u v k n) n) a
      → FloorLog a c → h ≤ 1 + 2 * c
  hops_bound x y h a c bx by p la fl =
      let m = meet_some T x y bx by in
      let i = rising_some T bx m.1.left in
      let j = rising_some T by m.1.right in
      let high : many T m.0 ≤ a = leaves_up T (root_above T m.0 (fits_up T bx m.1.left))
      (many_leaves T m.0) (root_leaves a la) in
      let e : h ≡ 1 + (i.0 + j.0) = hops_only R.forest p
      (hops_met bx by m.1.left m.1.right m.1.apart i.1.heads j.1.heads) in
      omega (arith, bounded T i.1 j.1 a c high fl)
