-- Each node's own branch, read from the table under the marks; and the ground on which a sweep stands.
use Prim.Native.Nat.{ℕ, ◌+◌, ◌-◌, ◌/◌, ◌≤◌, ◌<◌}
use mathlib.Core.Path.{◌≡◌, ◌∙◌}
use mathlib.Core.Logic.{◌≢◌}
use mathlib.Core.List.{List}
use native.Mathlib.Omega.{arith}
use native.Mathlib.Decide.{ℕ_discrete}
use lib.ListN.{set, length-set}
use lib.Seq.{get_or-set_same, get_or-set_other}
use Rattle.arrays.specs.At.{at}
use Rattle.arrays.specs.work.Filled.{Filled}
use Rattle.table.specs.work.Diff.{Diff}
use Rattle.net.specs.Net.{first_end, second_end, length_of}
use Rattle.net.specs.work.Net.{Net}
use Rattle.reach.specs.work.Walked.{Walked}
use Rattle.reach.proofs.NetWalk.{walk_grown, walk_rooted}
use Rattle.paths.specs.work.Ground.{Ground}
use Rattle.marks.specs.Weighs.{weight_under}
use Rattle.ground.specs.work.Grounded.{BranchesReadable, Branches, Grounded}

module _ {s marks half : List ℕ} where
  pub branches_none : {bl bw : List ℕ} → Filled 4096 0 bl → Filled 4096 0 bw → Branches s marks half 1 bl bw
  branches_none a b =
      record {
        length_is = λ x h z. absurd (omega arith);
        weight_is = λ x h z. absurd (omega arith);
        light = λ x h z. absurd (omega arith);
        bl_long = a.long;
        bw_long = b.long;
      }

  pub branches_more : {i : ℕ} {bl bw : List ℕ} (l w r : ℕ) → i < 4096 → r ≡ at half i / 2 → l ≡ length_of s r
      → Diff w 1000000 (weight_under s marks r) → w ≤ 2000000 → Branches s marks half i bl bw
      → Branches s marks half (i + 1) (set bl i l) (set bw i w)
  branches_more {i} {bl} {bw} l w r f er el ew lw b = record {
    length_is = λ x h z. pick_length x h z (ℕ_discrete x i);
    weight_is = λ x h z. pick_weight x h z (ℕ_discrete x i);
    light = λ x h z. pick_light x h z (ℕ_discrete x i);
    bl_long = length-set bl i l ∙ b.bl_long;
    bw_long = length-set bw i w ∙ b.bw_long;
  }
    where
      here_l : at (set bl i l) i ≡ l
      here_l = get_or-set_same bl i l 0 (omega (arith, b.bl_long))

      here_w : at (set bw i w) i ≡ w
      here_w = get_or-set_same bw i w 0 (omega (arith, b.bw_long))

      pick_length : (x : ℕ) → x < i + 1 → x ≢ 0 → Dec (x ≡ i) → at (set bl i l) x ≡ length_of s (at half x / 2)
      pick_length x h z (yes e) = rw (e, here_l, ← er) el
      pick_length x h z (no m) = rw (get_or-set_other bl i x l 0 m) (b.length_is x (omega arith) z)

      pick_weight : (x : ℕ) → x < i + 1 → x ≢ 0 → Dec (x ≡ i)
          → Diff (at (set bw i w) x) 1000000 (weight_under s marks (at half x / 2))
      pick_weight x h z (yes e) = rw (e, here_w, ← er) ew
      pick_weight x h z (no m) = rw (get_or-set_other bw i x w 0 m) (b.weight_is x (omega arith) z)

      pick_light : (x : ℕ) → x < i + 1 → x ≢ 0 → Dec (x ≡ i) → at (set bw i w) x ≤ 2000000
      pick_light x h z (yes e) = rw (e, here_w) lw
      pick_light x h z (no m) = rw (get_or-set_other bw i x w 0 m) (b.light x (omega arith) z)

  pub branches_all : {n i : ℕ} {bl bw : List ℕ} → n ≤ i → Branches s marks half i bl bw → Branches s marks half n bl bw
  branches_all h b =
      record {
        length_is = λ x c z. b.length_is x (omega arith) z;
        weight_is = λ x c z. b.weight_is x (omega arith) z;
        light = λ x c z. b.light x (omega arith) z;
        bl_long = b.bl_long;
        bw_long = b.bw_long;
      }

pub readable : {s : List ℕ} {n : ℕ} {parent half order place : List ℕ} → Net s n
    → Walked (first_end s) (second_end s) (n - 1) n parent half order place → BranchesReadable s n half
readable t w = record { net = t; row = λ x b z. (walk_rooted t w).row_fits x b z }

-- the ground of an accepted net under its marks
abbrev pub ground : {s marks : List ℕ} {n : ℕ} {parent half order place bl bw : List ℕ}
    → Grounded s marks n parent half order place bl bw → Ground n parent order place bl bw
ground {s} {marks} {n} {half = half} q =
    record {
      u = first_end s;
      v = second_end s;
      k = n - 1;
      long = length_of s;
      heavy = weight_under s marks;
      row = λ x. at half x / 2;
      grown = walk_grown q.net q.walked;
      rooted = walk_rooted q.net q.walked;
      length_is = q.branches.length_is;
      short = λ x c z. rw (q.branches.length_is x c z)
          (q.net.short (at half x / 2) ((walk_rooted q.net q.walked).row_fits x c z));
      weight_is = q.branches.weight_is;
      light = q.branches.light;
    }

-- the row that the code reads at node x
pub row_in : {s half : List ℕ} {n x h : ℕ} → BranchesReadable s n half → 0 < x → x < n → h ≡ at half x → h / 2 < n - 1
row_in {x = x} k z b e = rw e (k.row x b (λ q. omega arith))
