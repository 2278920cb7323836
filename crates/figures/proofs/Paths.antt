-- From a pair's figures to the net's own path: what `spots_of` gives is as `figure` asks, and the figures are the
-- path's length and its lifted weight. Value x y l w: the path between x and y has length l and weight w.
use Prim.Native.Nat.{ℕ, ◌+◌, ◌*◌, ◌<◌}
use mathlib.Core.Path.{◌≡◌}
use mathlib.Core.Logic.{◌⊎◌, inl, inr}
use mathlib.Core.List.{List}
use native.Mathlib.Omega.{arith}
use lib.IntN.{ℤ}
use Rattle.arrays.specs.At.{at}
use Rattle.table.specs.work.Diff.{Diff}
use Rattle.table.specs.work.Lift.{sum_lift}
use Rattle.table.proofs.Lift.{same, diff_only}
use Rattle.layout.specs.work.Spotted.{LeastOf, Crossed, Spotted}
use Rattle.figures.specs.work.Figures.{Figures, Figurable}
use Rattle.figures.proofs.Valuing.{either}

module _ {Value : ℕ → ℕ → ℕ → ℤ → Type 0} {n : ℕ} {spot above far heavy : List ℕ}
    (S : Spotted Value n spot above far heavy) where
  -- any two spots are two nodes'
  crossed : (i j m : ℕ) → i < j → j < n → LeastOf (at above) (i + 1) j m
      → (x : ℕ) × (y : ℕ) × Crossed Value far heavy x y i j m
  crossed i j m o b L =
      let x = S.onto i (omega arith) in
      let y = S.onto j b in
      put x.0 y.0 x.1 y.1 x.2 y.2
    where
      put : (x y : ℕ) → x < n → y < n → at spot x ≡ i → at spot y ≡ j
          → (x : ℕ) × (y : ℕ) × Crossed Value far heavy x y i j m
      put x y bx by e f = (x, y, rw (e, f) at (S.joins x y m bx by (omega arith) (rw (e, f) L)))

  pub figurable : Figurable n spot above far heavy
  figurable =
      record {
        small = S.spots.small;
        spots = S.spots.within;
        one = S.spots.one;
        parents = S.parents;
        far_small = S.far_small;
        heavy_small = S.heavy_small;
        far_room = λ i j m o b L. omega (arith, (crossed i j m o b L).2.length);
        heavy_room = λ i j m o b L. (crossed i j m o b L).2.low;
        heavy_most = λ i j m o b L. (crossed i j m o b L).2.high;
      }

  -- the figures across two spots are those of the path
  same_path : {x y i j m l k : ℕ} {w : ℤ} (c : Crossed Value far heavy x y i j m)
      → l + 2 * at far m ≡ at far i + at far j → k + 2 * at heavy m ≡ at heavy i + at heavy j + sum_lift
      → Diff k sum_lift w → (c.l ≡ l) × (c.w ≡ w)
  same_path c e f h = (omega (arith, c.length), diff_only (same (omega arith) c.weight) h)

  pub figures_value : {a b l x : ℕ} {w : ℤ} → a < b → b < n → Figures spot above far heavy a b l x
      → Diff x sum_lift w → Value a b l w
  figures_value {a} {b} {l} {x} {w} o bb f h = pick (either figurable o bb)
    where
      ba : a < n
      ba = omega arith

      pick : (at spot a < at spot b) ⊎ (at spot b < at spot a) → Value a b l w
      pick (inl u) =
          let j = f.rises u in
          let c = S.joins a b j.meet ba bb u j.least in
          let e = same_path c j.length j.weight h in
          rw (e.0, e.1) at c.value
      pick (inr u) =
          let j = f.falls u in
          let c = S.joins b a j.meet bb ba u j.least in
          let e = same_path c j.length j.weight h in
          rw (e.0, e.1) at c.back
