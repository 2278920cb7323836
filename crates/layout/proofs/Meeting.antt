-- From climbs to paths: where the climbs of two nodes meet, the distances and weights from the root give the length and
-- the weight of the path between them.
use Prim.Native.Nat.{ℕ, zero, suc, ◌+◌, ◌*◌, ◌≤◌, ◌<◌}
use mathlib.Core.Path.{◌≡◌, refl, ap}
use mathlib.Core.Logic.{◌⊎◌, inl, inr, ◌≢◌, ⊎_elim}
use mathlib.Core.List.{List, ◌∷◌}
use native.Mathlib.Omega.{arith}
use native.Mathlib.Decide.{ℕ_discrete}
use lib.IntN.{ℤ, sub_ℕ, ◌+ℤ◌}
use lib.ListN.{length}
use Rattle.arrays.specs.At.{at}
use Rattle.arrays.specs.Members.{In}
use Rattle.table.specs.work.Diff.{Diff}
use Rattle.table.specs.work.Lift.{row_lift, sum_lift, sum_end}
use Rattle.table.proofs.Lift.{diff, same, sum, lift_only, equally}
use Rattle.net.specs.Graph.{Walk, stop, go}
use Rattle.net.specs.Path.{Sum}
use Rattle.net.specs.work.Rooted.{Above, self, up}
use Rattle.net.specs.Value.{Total, Value}
use Rattle.net.proofs.Above.{Tree, fits_up}
use Rattle.net.proofs.Counts.{upto, upto_length, upto_in, distinct_le}
use Rattle.net.proofs.Far.{far, far_sums}
use Rattle.net.proofs.Flip.{value_flip}
use Rattle.net.proofs.Rooted.{above_inv}
use Rattle.net.proofs.Route.{Sums, Route, route, route_value}
use Rattle.net.proofs.Values.{length_only, weight_only, value_none, value_down}
use Rattle.reach.proofs.Grown.{grown_tree}
use Rattle.paths.specs.work.Ground.{Ground}
use Rattle.paths.specs.work.Paths.{Paths}
use Rattle.layout.specs.work.Spotted.{Crossed}

-- the climbs of x and y meet first at t
pub record Meet (parent : List ℕ) (x y t : ℕ) : Type 0 where
  pub left : Above (at parent) t x
  pub right : Above (at parent) t y
  pub first : (z : ℕ) → Above (at parent) t z → z ≢ t → Above (at parent) z y → ¬ Above (at parent) z x

-- two sides of one signed number
sides : {a b c d : ℕ} {z : ℤ} → Diff a b z → Diff c d z → a + d ≡ c + b
sides {a} {b} {c} {d} {z} p q =
    let p' : Diff (a + d) (b + d) z = same (omega arith) p in
    let q' : Diff (c + b) (b + d) z = same (omega arith) q in
    lift_only p' q'

-- a walk meets a node a row
as_many : {u v : ℕ → ℕ} {P : ℕ → Type 0} {a b : ℕ} {rs ns : List ℕ} → Walk u v P a rs ns b → Sum (λ r. 1) rs ≡ length ns
as_many stop = refl
as_many (go h e w) = omega (arith, as_many w)

-- the paths of the net
abbrev pub From : {n : ℕ} {parent order place bl bw : List ℕ} → Ground n parent order place bl bw → ℕ → ℕ → ℕ → ℤ
    → Type 0
From g = Value g.u g.v g.k g.long g.heavy

module _ {n : ℕ} {parent order place bl bw : List ℕ} (g : Ground n parent order place bl bw) (d w : List ℕ)
    (P : Paths g 0 d w) where
  from_root : (x : ℕ) → x < n → From g 0 x (at d x) (sub_ℕ (at w x) sum_lift)
  from_root x b = P.value x b (sub_ℕ (at w x) sum_lift) (diff (at w x) sum_lift)

  root_top : {x : ℕ} → x ≢ 0 → ¬ Above (at parent) x 0
  root_top {x} z a = pick (above_inv a)
    where
      pick : (x ≡ 0) ⊎ ((◌≢◌ {A = ℕ} 0 0) × Above (at parent) x (at parent 0)) → ⊥
      pick (inl e) = z e
      pick (inr s) = s.0 refl

  -- the path from the root, one node on
  up_one : (x : ℕ) → x < n → x ≢ 0
      → (at d x ≡ at d (at parent x) + g.long (g.row x))
      × (sub_ℕ (at w x) sum_lift ≡ sub_ℕ (at w (at parent x)) sum_lift +ℤ g.heavy (g.row x))
  up_one x b z =
      let p = value_down g.u g.v g.rooted x b z (root_top z)
      (from_root (at parent x) (g.grown.fits x b z)) in (
        length_only g.u g.v g.rooted.forest (from_root x b) p,
        weight_only g.u g.v g.rooted.forest (from_root x b) p,
      )

  w_up : (x : ℕ) → x < n → x ≢ 0 → Diff (at w x) (at w (at parent x)) (g.heavy (g.row x))
  w_up x b z =
      let h = g.weight_is x b z in
      let e : at w x + (sum_lift + row_lift) ≡ (at w (at parent x) + at bw x) + sum_lift = sides
      (diff (at w x) sum_lift) (equally (up_one x b z).1 (sum (diff (at w (at parent x)) sum_lift) h)) in
      same (omega (arith, e)) h

  -- the root is at 0, and each branch is at most 1,000,000 long
  near : (m x : ℕ) → x < n → at place x < m → at d x ≤ 1000000 * at place x
  near zero x b l = absurd (omega arith)
  near (suc m) x b l = pick (ℕ_discrete x 0) (near m (at parent x))
    where
      root : at d 0 ≡ 0
      root =
          length_only g.u g.v g.rooted.forest (from_root 0 g.grown.some.0) (value_none g.u g.v 0)

      pick : Dec (x ≡ 0)
          → (at parent x < n → at place (at parent x) < m → at d (at parent x) ≤ 1000000 * at place (at parent x))
          → at d x ≤ 1000000 * at place x
      pick (yes e) ih = omega (arith, root, ap (at d) e)
      pick (no z) ih =
          let s = g.grown.earlier x b z in
          omega (arith, s, (up_one x b z).0, g.length_is x b z, g.short x b z, ih (g.grown.fits x b z) (omega arith))

  pub d_small : (x : ℕ) → x < n → at d x < sum_end
  d_small x b = omega (arith, near (suc (at place x)) x b (omega arith), (g.grown.here x b).0, g.grown.some.1)

  T : Tree n (at parent) (at place)
  T = grown_tree g.grown

  -- how many branches a climb has
  depth : ℕ → ℕ
  depth = far (at parent) g.row n (λ r. 1)

  deeper : Sums (at parent) g.row n (λ r. 1) depth
  unfolding depth
  deeper = far_sums T g.row (λ r. 1)

  -- along a climb the weight changes by at most 1,000,000 a branch
  steps : {t x : ℕ} → x < n → Above (at parent) t x
      → (at w x + 1000000 * depth t ≤ at w t + 1000000 * depth x)
      × (at w t + 1000000 * depth t ≤ at w x + 1000000 * depth x)
  steps b self = (omega arith, omega arith)
  steps {t} {x} b (up {y} z e h) =
      let i = steps (rw e at (g.grown.fits x b z)) h in
      let u : at w x + 1000000 ≡ at bw x + at w y = rw e at (sides (w_up x b z) (g.weight_is x b z)) in
      let v : depth x ≡ depth y + 1 = rw e at (deeper x b z) in
      let l = g.light x b z in
      (omega (arith, i.0), omega (arith, i.1))

  -- a path has fewer branches than there are nodes
  module _ {t x y : ℕ} (bx : x < n) (by : y < n) (m : Route g.rooted T t x y) where
    fits : (z : ℕ) → In z (x ∷ m.nodes) → z < n
    fits z i = ⊎_elim (fits_up T bx) (fits_up T by) (m.only z i).1

    few : length m.nodes < n
    few = omega (arith, upto_length n, distinct_le (x ∷ m.nodes) (upto n) m.once (λ z i. upto_in n z (fits z i)))

    branches : Sum (λ r. 1) m.rows < n
    branches = omega (arith, few, as_many m.walk)

  -- the path between two nodes whose climbs meet at t
  pub met : {t x y : ℕ} → x < n → y < n → Meet parent x y t → Crossed (From g) d w x y x y t
  met {t} {x} {y} bx by m =
      put
      (route g.rooted T bx by m.left m.right
      (λ z h k. m.first z h.below h.not k.above h.above))
    where
      put : Route g.rooted T t x y → Crossed (From g) d w x y x y t
      put r =
          let i = steps bx m.left in
          let j = steps by m.right in
          let k = r.sum (λ r. 1) depth deeper in
          let f = branches bx by r in
          let c = g.grown.some.1 in
          let v = route_value g.rooted T r in
          record {
            l = Sum g.long r.rows;
            w = Total g.heavy r.rows;
            value = v;
            back = value_flip g.u g.v v;
            length = r.sum g.long (at d) (λ x b z. (up_one x b z).0);
            weight = r.total g.heavy (at w) w_up;
            low = omega (arith, i.1, j.1, k, f, c);
            high = omega (arith, i.0, j.0, k, f, c);
          }
