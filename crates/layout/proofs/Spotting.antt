-- What `spots_of` lays out tells the net's paths: two climbs meet where the least parent's spot says (Between), and
-- there the distances and weights from the root give the path (Meeting).
use Prim.Native.Nat.{ℕ, ◌+◌, ◌<◌}
use mathlib.Core.Path.{◌≡◌, sym, ap, ◌∙◌}
use mathlib.Core.List.{List}
use native.Mathlib.Omega.{arith}
use native.Mathlib.Decide.{ℕ_discrete}
use Rattle.arrays.specs.At.{at}
use Rattle.table.specs.work.Lift.{sum_end}
use Rattle.table.proofs.Lift.{same}
use Rattle.spines.specs.work.Parents.{HeadsAll, SizesAll}
use Rattle.paths.specs.work.Ground.{Ground}
use Rattle.paths.specs.work.Paths.{Paths}
use Rattle.layout.specs.work.Laid.{Laid}
use Rattle.layout.specs.work.Seats.{Seating}
use Rattle.layout.specs.work.Spotted.{LeastOf, Crossed, Spotted}
use Rattle.layout.proofs.Meeting.{From, d_small, met}
use Rattle.layout.proofs.Between.{between}
use Rattle.layout.proofs.Spots as spots

module _ {n : ℕ} {parent order place bl bw : List ℕ} (g : Ground n parent order place bl bw) (d w : List ℕ)
    (P : Paths g 0 d w) {head size spot next above far heavy : List ℕ} (H : HeadsAll n parent head)
    (Z : SizesAll n parent size) (q : Seating n parent place head size n spot next)
    (A : Laid 1 n spot (λ v. at spot (at parent v)) above) (F : Laid 0 n spot (λ v. at d v) far)
    (W : Laid 0 n spot (λ v. at w v) heavy) where
  by_spot : (Q : ℕ → Type 0) → ((v : ℕ) → v < n → Q (at spot v)) → (s : ℕ) → s < n → Q s
  by_spot = spots.by_spot g.grown H Z q

  -- the root has no parent, and 0 stands at its spot
  parent_fits : (v : ℕ) → v < n → at above (at spot v) < n
  parent_fits v b = pick (ℕ_discrete v 0)
    where
      pick : Dec (v ≡ 0) → at above (at spot v) < n
      pick (yes e) =
          let o : at spot v ≡ 0 = ap (at spot) e ∙ q.root in
          omega (
            arith,
            ap (at above) o,
            A.rest 0 (omega arith) (spots.off_root g.grown H Z q),
            g.grown.some.0,
          )
      pick (no z) =
          omega (
            arith,
            A.each v (omega arith) b,
            (spots.spots_of g.grown H Z q).within (at parent v) (g.grown.fits v b z),
          )

  joins : (x y m : ℕ) → x < n → y < n → at spot x < at spot y → LeastOf (at above) (at spot x + 1) (at spot y) m
      → Crossed (From g) far heavy x y (at spot x) (at spot y) m
  joins x y m bx by l L =
      let t = between g.grown H Z q A bx by l L in
      let c = met g d w P bx by t.meets in
      let fx = F.each x (omega arith) bx in
      let fy = F.each y (omega arith) by in
      let ft = sym (ap (at far) t.spotted) ∙ F.each t.node (omega arith) t.fits in
      let wx = W.each x (omega arith) bx in
      let wy = W.each y (omega arith) by in
      let wt = sym (ap (at heavy) t.spotted) ∙ W.each t.node (omega arith) t.fits in
      record {
        l = c.l;
        w = c.w;
        value = c.value;
        back = c.back;
        length = omega (arith, c.length, fx, fy, ft);
        weight = same (omega (arith, wx, wy, wt)) c.weight;
        low = omega (arith, c.low, wx, wy, wt);
        high = omega (arith, c.high, wx, wy, wt);
      }

  pub spotted : Spotted (From g) n spot above far heavy
  spotted =
      record {
        spots = spots.spots_of g.grown H Z q;
        onto = λ s b. let t = spots.everywhere g.grown H Z q s b in (t.0, t.1.0, t.2);
        parents = by_spot (λ s. at above s < n) parent_fits;
        far_small = by_spot (λ s. at far s < sum_end)
            (λ v b. omega (arith, F.each v (omega arith) b, d_small g d w P v b));
        heavy_small = by_spot (λ s. at heavy s < sum_end)
            (λ v b. omega (arith, W.each v (omega arith) b, P.small v b));
        joins = joins;
      }
