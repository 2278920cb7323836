-- A path's branch count is its length in the net whose branches are all 1 long, on which a sweep stands as it does on
-- the net itself; a path weighs the same in both.
use Prim.Native.Nat.{ℕ, ◌-◌, ◌≤◌, ◌<◌}
use mathlib.Core.Path.{◌≡◌, refl}
use mathlib.Core.List.{List}
use native.Mathlib.Omega.{arith}
use lib.IntN.{ℤ, nat_abs}
use Rattle.arrays.specs.work.Filled.{Filled}
use Rattle.net.specs.Net.{first_end, second_end, length_of}
use Rattle.net.specs.Path.{Sum}
use Rattle.net.specs.work.Net.{Net}
use Rattle.net.proofs.Values.{weight_only}
use Rattle.marks.specs.Weighs.{weight_under}
use Rattle.paths.specs.work.Ground.{Ground}
use Rattle.ground.specs.PathOf.{PathOf}
use Rattle.ground.specs.work.Grounded.{Grounded}
use Rattle.ground.proofs.Branching.{ground}
use Rattle.ground.proofs.Bounds.{path_bounds}
use Rattle.window.specs.Window.{BranchCount}
use Rattle.window.specs.work.Scan.{Both}

-- the net's own walk, every branch 1 long
abbrev pub counted : {s marks : List ℕ} {n : ℕ} {parent half order place bl bw ones : List ℕ}
    → Grounded s marks n parent half order place bl bw → Filled 4096 1 ones → Ground n parent order place ones bw
counted {s} {marks} {n} {half = half} q f =
    record {
      u = first_end s;
      v = second_end s;
      k = n - 1;
      long = λ r. 1;
      heavy = weight_under s marks;
      row = (ground q).row;
      grown = (ground q).grown;
      rooted = (ground q).rooted;
      length_is = λ x c z. f.each x (omega (arith, q.net.few));
      short = λ x c z. omega (arith, f.each x (omega (arith, q.net.few)));
      weight_is = q.branches.weight_is;
      light = q.branches.light;
    }

module _ (s marks : List ℕ) {n : ℕ} (net : Net s n) where
  -- a path whose branches are counted has a length
  pub length_of_lem : {a b c : ℕ} {w : ℤ} → BranchCount s marks n a b c w → (l : ℕ) × PathOf s marks n a b l w
  length_of_lem p = (
    Sum (length_of s) p.rows,
    record { rows = p.rows; path = p.path; length = refl; weight = p.weight },
  )

  pub one_weight : {a b c l : ℕ} {w z : ℤ} → BranchCount s marks n a b c w → PathOf s marks n a b l z → w ≡ z
  one_weight p q = weight_only (first_end s) (second_end s) net.forest (length_of_lem p).1 q

  pub count_light : {a b c : ℕ} {w : ℤ} → a < n → BranchCount s marks n a b c w → nat_abs w ≤ 4095000000
  count_light h p = (path_bounds s marks net h (length_of_lem p).1).1

-- both nets, on which the list's scan stands
abbrev pub both : {s marks : List ℕ} {n : ℕ} {parent half order place bl bw ones : List ℕ}
    → Grounded s marks n parent half order place bl bw → Filled 4096 1 ones → Both n parent order place ones bl bw
both {s} {marks} q f =
    record { keys = counted q f; lengths = ground q; agree = λ a b k l w z. one_weight s marks q.net }
