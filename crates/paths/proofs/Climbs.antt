-- The climb from a to node 0: it has come to a node above a, and the nodes that it passed are marked, those above a and
-- not above where it is.
use Prim.Native.Nat.{ℕ, ◌+◌, ◌-◌, ◌≤◌, ◌<◌}
use mathlib.Core.Path.{◌≡◌, refl, sym, ◌∙◌}
use mathlib.Core.Logic.{◌⊎◌, inl, inr, ◌≢◌}
use mathlib.Core.List.{List}
use native.Mathlib.Omega.{arith}
use native.Mathlib.Decide.{ℕ_discrete}
use lib.ListN.{length, set, length-set}
use lib.Seq.{get_or-set_same, get_or-set_other}
use Rattle.arrays.specs.At.{at}
use Rattle.net.specs.work.Rooted.{Above, self, up}
use Rattle.net.proofs.Rooted.{above_inv}
use Rattle.net.proofs.Above.{fits_up, place_up}
use Rattle.reach.proofs.Grown.{grown_tree}
use Rattle.paths.specs.work.Ground.{Ground}
use Rattle.paths.specs.work.Sweeps.{Cleared, Climbed, Marked, Climbable, Climbing}
use Rattle.paths.proofs.Branch.{far_start, far_weaken, far_up}

abbrev pub climbable : {n a : ℕ} {parent order place bl bw : List ℕ} → Ground n parent order place bl bw → a < n
    → Climbable n a parent place bl bw
climbable {order} g b = record { order = order; ground = g; node = b }

pub climbing_start : {n a : ℕ} {parent place bl bw above : List ℕ} → Cleared n above
    → Climbing n a parent place bl bw a 0 8589934592 above
climbing_start {n} {a} f = record {
  climbed = λ k. record {
    up = self;
    far = far_weaken k.ground a _ (omega arith) (far_start k.ground a);
    is = λ t b e. absurd (omega (arith, f.each t b));
    rest = λ t b m h. h;
  };
  long = f.long;
}

module _ {n : ℕ} {parent order place bl bw : List ℕ} (g : Ground n parent order place bl bw) {a x l w : ℕ}
    {above : List ℕ} (b : a < n) (c : Climbed g a x l w above) where
  node_in : x < n
  node_in = fits_up (grown_tree g.grown) b c.up

  not_later : at place x ≤ at place a
  not_later = place_up (grown_tree g.grown) b c.up

  few : at place a < 4096
  few = omega (arith, (g.grown.here a b).0, g.grown.some.1)

  module _ (long : length above ≡ 4096) (z : x ≢ 0) (l₁ w₁ : ℕ) (el : l₁ ≡ l + at bl x)
      (ew : w₁ ≡ w + at bw x - 1000000) where
    not_up : ¬ Above (at parent) x (at parent x)
    not_up h =
        omega (arith, place_up (grown_tree g.grown) (g.grown.fits x node_in z) h, g.grown.earlier x node_in z)

    flag_here : at (set above x 1) x ≡ 1
    flag_here = get_or-set_same above x 1 0 (omega (arith, node_in, g.grown.some.1))

    climbed_step : Climbed g a (at parent x) l₁ w₁ (set above x 1)
    climbed_step =
        record {
          up = more c.up;
          far = far_weaken g a _ (omega (arith, g.grown.earlier x node_in z, not_later))
              (far_up g a x node_in z (at bl x) (at bw x) refl refl l₁ w₁ c.up c.far el
              (omega (arith, c.far.low, few)));
          is = λ t h e. pick_is t h e (ℕ_discrete t x);
          rest = λ t h m p. pick_rest t h m p (ℕ_discrete t x);
        }
      where
        more : {y : ℕ} → Above (at parent) x y → Above (at parent) (at parent x) y
        more self = up z refl self
        more (up q e h) = up q e (more h)

        pick_is : (t : ℕ) → t < n → at (set above x 1) t ≡ 1 → Dec (t ≡ x)
            → Above (at parent) t a × ¬ Above (at parent) t (at parent x)
        pick_is t h e (yes q) = rw q (c.up, not_up)
        pick_is t h e (no q) =
            let o = c.is t h (sym (get_or-set_other above x t 1 0 q) ∙ e) in
            (o.0, λ p. o.1 (up z refl p))

        below : (t : ℕ) → t ≢ x → (t ≡ x) ⊎ ((x ≢ 0) × Above (at parent) t (at parent x))
            → Above (at parent) t (at parent x)
        below t q (inl e) = absurd (q e)
        below t q (inr p) = p.1

        pick_rest : (t : ℕ) → t < n → (at (set above x 1) t ≡ 1 → ⊥) → Above (at parent) t a → Dec (t ≡ x)
            → Above (at parent) t (at parent x)
        pick_rest t h m p (yes q) = absurd (m (rw q flag_here))
        pick_rest t h m p (no q) = below t q (above_inv (c.rest t h (λ e. m (get_or-set_other above x t 1 0 q ∙ e)) p))

  climbed_end : x ≡ 0 → Marked g a l w above
  climbed_end e = record {
    far = rw e at (far_weaken g a 4096 (omega (arith, few)) c.far);
    is = λ t h z m. (c.is t h m).0;
    not = λ t h z m p. top t z (above_inv (rw e at (c.rest t h m p)));
  }
    where
      top : (t : ℕ) → t ≢ 0 → (t ≡ 0) ⊎ ((◌≢◌ {A = ℕ} 0 0) × Above (at parent) t (at parent 0)) → ⊥
      top t z (inl q) = z q
      top t z (inr q) = q.0 refl

module _ {n a x l w : ℕ} {parent place bl bw above : List ℕ} (c : Climbing n a parent place bl bw x l w above) where
  -- what the code does at x: its places and sums fit, and its parent's place is earlier
  module _ (k : Climbable n a parent place bl bw) where
    pub climb_node : x < 4096
    climb_node = omega (arith, node_in k.ground k.node (c.climbed k), k.ground.grown.some.1)

    pub climb_fits : x ≢ 0
        → (l ≤ 4096000000) × (at bl x ≤ 1000000) × (1000000 ≤ w) × (w ≤ 17179869184) × (at bw x ≤ 2000000)
    climb_fits z =
        let f = (c.climbed k).far in
        let b = node_in k.ground k.node (c.climbed k) in
        let h = few k.ground k.node (c.climbed k) in (
          omega (arith, f.short),
          k.ground.short x b z,
          omega (arith, f.low),
          omega (arith, f.high),
          k.ground.light x b z,
        )

    pub climb_less : x ≢ 0 → (p : ℕ) → p ≡ at parent x → at place p < at place x
    climb_less z p e = rw e (k.ground.grown.earlier x (node_in k.ground k.node (c.climbed k)) z)

  pub climbing_step : x ≢ 0 → (p l₁ w₁ : ℕ) → p ≡ at parent x → l₁ ≡ l + at bl x → w₁ ≡ w + at bw x - 1000000
      → Climbing n a parent place bl bw p l₁ w₁ (set above x 1)
  climbing_step z p l₁ w₁ ep el ew = record {
    climbed = λ k. rw ep (climbed_step k.ground k.node (c.climbed k) c.long z l₁ w₁ el ew);
    long = length-set above x 1 ∙ c.long;
  }

  pub climbing_end : x ≡ 0 → (k : Climbable n a parent place bl bw) → Marked k.ground a l w above
  climbing_end e k = climbed_end k.ground k.node (c.climbed k) e
