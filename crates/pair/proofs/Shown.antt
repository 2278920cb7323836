-- The operation pair: the lengths and the lifted weights of the two climbs add up to the path's; what its parts ask;
-- and from the way and the hops that they find to the path of the accepted net.
use Prim.Native.Nat.{ℕ, ◌+◌, ◌-◌, ◌≤◌, ◌<◌}
use mathlib.Core.Path.{◌≡◌, ◌∙◌}
use mathlib.Core.List.{List}
use native.Mathlib.Omega.{arith}
use lib.IntN.{ℤ}
use Rattle.arrays.specs.At.{at}
use Rattle.table.specs.work.Lift.{sum_lift, LoweredOf}
use Rattle.table.proofs.Lift as lift
use Rattle.net.specs.Net.{first_end, second_end, length_of, TwoNodes}
use Rattle.net.specs.work.Net.{Net}
use Rattle.net.specs.work.Rise.{row_of}
use Rattle.net.proofs.Short.{path_short}
use Rattle.reach.specs.work.Grown.{Grown}
use Rattle.reach.specs.work.Walked.{Walked, WalkOf}
use Rattle.reach.proofs.NetWalk.{walk_grown, walk_rooted}
use Rattle.marks.specs.Weighs.{weight_under}
use Rattle.marks.specs.work.Measured.{Measured}
use Rattle.tree.specs.work.Meet.{Meets}
use Rattle.tree.proofs.Meeting.{walk_rises}
use Rattle.spines.specs.work.Parents.{HeadsAll, Spined, HopsBy}
use Rattle.ground.specs.PathOf.{PathOf}
use Rattle.pair.specs.Pair.{ShowsPath, found}
use Rattle.pair.specs.work.Way.{WayOf}

-- up the one climb and down the other
pub way_both : {s marks : List ℕ} {n : ℕ} {parent half place : List ℕ} {x y t l l' q q' k k' : ℕ} → Net s n
    → WalkOf s n parent half place → TwoNodes n x y → Meets (at parent) x y t
    → Measured s marks parent half x t l q k → Measured s marks parent half y t l' q' k'
    → WayOf s marks n x y (l + l') (q + q' - sum_lift)
way_both {s} {marks} N W two m ups downs =
    let whole = walk_rises N W.walked two.first two.second m ups.rise downs.rise in
    record {
      value = λ w d. record {
        rows = whole.rows;
        path = whole.path;
        length = whole.sum (length_of s) ∙ omega (arith, ups.long, downs.long);
        weight = whole.total (weight_under s marks)
            ∙ lift.diff_only
            (lift.same (omega (arith, ups.low, downs.low)) (lift.sum ups.heavy downs.heavy))
            d;
      };
      small = omega (arith, ups.high, downs.high);
    }

-- the code works with n, x and y, which are the numbers nodes, a and b made wide
module _ {s parent half order place : List ℕ} {n x y nodes a b : ℕ} (e : n ≡ nodes) (ex : x ≡ a) (ey : y ≡ b)
    (N : Net s nodes) (two : TwoNodes nodes a b)
    (W : Walked (first_end s) (second_end s) (nodes - 1) nodes parent half order place) where
  pub pair_grown : Grown n parent order place
  pair_grown = rw e (walk_grown N W)

  pub pair_spined : {head : List ℕ} → HeadsAll n parent head → Spined n parent place head × (x < n) × (y < n)
  pair_spined h = (
    record { order = order; grown = pair_grown; heads = h },
    omega (arith, two.first),
    omega (arith, two.second),
  )

  pub pair_asks : {m : ℕ} → m ≡ nodes - 1 → Net s n × (m ≡ n - 1) × TwoNodes n x y × WalkOf s n parent half place
  pair_asks many = rw (e, ex, ey) (N, many, two, record { order = order; walked = W })

  module _ {marks : List ℕ} {l q : ℕ} (way : WayOf s marks n x y l q) {w : ℤ} (lower : LoweredOf q w) where
    path : PathOf s marks nodes a b l w
    path = let f : WayOf s marks nodes a b l q = rw (e, ex, ey) at way in f.value w (lower.back f.small)

    pub pair_short : l ≤ 4095000000
    pair_short = path_short N two.first path

    pub pair_shown : {h : ℕ} → HopsBy n parent place x y h → ShowsPath s marks nodes a b (found l w h)
    pair_shown {h} p =
        let k : HopsBy nodes parent place a b h = rw (e, ex, ey) at p in
        (path, k.hops (first_end s) (second_end s) (nodes - 1) (row_of half) (walk_rooted N W))
