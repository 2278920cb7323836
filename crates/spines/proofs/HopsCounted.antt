-- Hops as the code counts them: along each climb the nodes that are their own heads, and one more.
use Prim.Native.Nat.{ℕ, ◌+◌, ◌≤◌, ◌<◌}
use mathlib.Core.Path.{◌≡◌, sym}
use mathlib.Core.Logic.{◌⊎◌, inl, inr, ◌≢◌}
use mathlib.Core.List.{List}
use native.Mathlib.Omega.{arith}
use Rattle.arrays.specs.At.{at}
use Rattle.net.specs.work.Rooted.{Above, Passed}
use Rattle.tree.specs.work.Meet.{Meets}
use Rattle.net.proofs.Rooted.{above_inv}
use Rattle.net.proofs.Above.{Tree, above_anti, fits_up}
use Rattle.reach.proofs.Grown.{grown_tree}
use Rattle.spines.specs.Spine.{Head}
use Rattle.spines.specs.work.Parents.{Child, Spined, HopsBy}
use Rattle.spines.specs.work.Climbs.{One, HeadsClimbable, PassedHeads}
use Rattle.spines.proofs.Head.{head_one}
use Rattle.spines.proofs.Rising.{Rising, rising_start, rising_step}
use Rattle.spines.proofs.HopsBound.{hops_met}

-- the climb from x to t stands at v and has passed r heads
pub record Passing {parent place head : List ℕ} {x t : ℕ} (k : HeadsClimbable parent place head x t) (v r : ℕ) : Type
    0 where
  pub rising : Rising (grown_tree k.spined.grown) x v r
  pub below : Above (at parent) t v
  pub most : r + at place v ≤ at place x

module _ {parent place head : List ℕ} {x t : ℕ} (k : HeadsClimbable parent place head x t) where
  abbrev T : Tree k.n (at parent) (at place)
  T = grown_tree k.spined.grown

  pub passing_start : Passing k x 0
  passing_start = record { rising = rising_start T k.fits; below = k.above; most = omega arith }

  pub passing_end : {v r : ℕ} → v ≡ t → Passing k v r → PassedHeads k.n parent place x t r
  passing_end e p = rw (← e) (record { heads = p.rising.heads; most = p.most })

  module _ {v r : ℕ} (p : Passing k v r) where
    fv : v < k.n
    fv = fits_up T k.fits p.rising.above

    pub passing_fits : v < 4096
    passing_fits = omega (arith, fv, k.spined.grown.some.1)

    pub passing_few : r < 4096
    passing_few = omega (arith, p.most, T.within x k.fits, k.spined.grown.some.1)

    module _ (m : v ≢ t) where
      goes : (v ≢ 0) × Above (at parent) t (at parent v)
      goes = pick (above_inv p.below)
        where
          pick : (t ≡ v) ⊎ ((v ≢ 0) × Above (at parent) t (at parent v)) → (v ≢ 0) × Above (at parent) t (at parent v)
          pick (inl e) = absurd (m (sym e))
          pick (inr s) = s

      pub passing_less : at place (at parent v) < at place v
      passing_less = T.earlier v fv goes.0

      pub passing_step : {q e : ℕ} → q ≡ at parent v → One head v e → Passing k q (r + e)
      passing_step {q} {e} f o =
          rw f
          (record {
            rising = rising_step T p.rising goes.0 (r + e)
                (record {
                  own = λ h. omega (arith, o.own (head_one (k.spined.heads.each v fv) h));
                  other = λ n. omega (arith, o.other (λ h. n (own_of h)));
                });
            below = goes.1;
            most = omega (arith, p.most, passing_less, o.most);
          })
        where
          own_of : at head v ≡ v → Head (Child k.n (at parent)) k.n v v
          own_of h = turn (at head v) (k.spined.heads.each v fv) h
            where
              turn : (g : ℕ) → Head (Child k.n (at parent)) k.n g v → g ≡ v
                  → Head (Child k.n (at parent)) k.n v v
              turn g d h = rw h at d

-- from the two climbs to where they meet
module _ {n : ℕ} {parent place head : List ℕ} (s : Spined n parent place head) {x y t : ℕ} (bx : x < n) (by : y < n)
    (m : Meets (at parent) x y t) where
  pub hops_counted : {i j : ℕ} → ((k : HeadsClimbable parent place head x t) → PassedHeads k.n parent place x t i)
      → ((k : HeadsClimbable parent place head y t) → PassedHeads k.n parent place y t j)
      → HopsBy n parent place x y (1 + i + j)
  hops_counted {i} {j} f g =
      let T = grown_tree s.grown in
      let p = f (record { n = n; spined = s; fits = bx; above = m.first }) in
      let q = g (record { n = n; spined = s; fits = by; above = m.second }) in
      record {
        hops = λ u v k row R. rw (sum_one i j)
            (hops_met R T s.grown.some.0 bx by m.first m.second apart p.heads q.heads);
        few = omega (arith, p.most, q.most, T.within x bx, T.within y by, s.grown.some.1);
      }
    where
      sum_one : (i j : ℕ) → 1 + i + j ≡ 1 + (i + j)
      sum_one i j = omega arith

      apart : (z : ℕ) → Passed (at parent) t x z → Passed (at parent) t y z → ⊥
      apart z h g =
          h.not
          (above_anti (grown_tree s.grown) (fits_up (grown_tree s.grown) bx m.first)
          (m.lowest z h.above g.above) h.below)
