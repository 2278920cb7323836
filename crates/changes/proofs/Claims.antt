-- Claim over a walk: the climbs of the two nodes up to where they meet make the path, so what was measured and taken on
-- them is the path's.
use mathlib.Core.Path.{◌≡◌, sym, ◌∙◌}
use mathlib.Core.Logic.{◌≢◌}
use mathlib.Core.List.{List, ◌++◌}
use Prim.Native.Nat.{ℕ, ◌+◌, ◌-◌, ◌≤◌, ◌<◌}
use native.Mathlib.Omega.{arith}
use Rattle.arrays.specs.At.{at}
use Rattle.table.specs.Refuse.{refused, passed}
use Rattle.net.specs.Path.{Sum}
use Rattle.net.specs.work.Net.{Net}
use Rattle.net.specs.Net.{first_end, second_end, length_of}
use Rattle.net.specs.work.Rooted.{Rooted}
use Rattle.net.specs.work.Rise.{row_of}
use Rattle.net.proofs.Rises.{TwoRises, rise_only}
use Rattle.reach.specs.work.Walked.{WalkOf}
use Rattle.tree.specs.work.Meet.{Meets}
use Rattle.reach.proofs.NetWalk.{walk_rooted}
use Rattle.tree.proofs.Meeting.{walk_rises}
use Rattle.marks.specs.work.Measured.{Frees, Measured}
use Rattle.changes.specs.Change.{change_refusal}
use Rattle.changes.specs.Claim.{Ended}
use Rattle.changes.specs.work.Climbs.{ClimbHeld, ClaimReady, Held}
use Rattle.std.specs.Prelude.{Ok}
use Rattle.changes.proofs.Held.{held_both}
use Rattle.changes.proofs.Changed.{in_reach, claimed, none_free, some_free}

module _ {s : List ℕ} {n : ℕ} {parent half place : List ℕ} (N : Net s n) (W : WalkOf s n parent half place) where
  abbrev rooted : Rooted (first_end s) (second_end s) (n - 1) n (at parent) (row_of half) (at place)
  rooted = walk_rooted N W.walked

  module _ {before : List ℕ} {run a b t : ℕ} (R : ClaimReady s before n run a b) (m : Meets (at parent) a b t)
      {l l' q q' k k' : ℕ} (ups : Measured s before parent half a t l q k)
      (downs : Measured s before parent half b t l' q' k') where
    whole : TwoRises rooted a b ups.rows downs.rows
    whole = walk_rises N W.walked R.pair.first R.pair.second m ups.rise downs.rise

    long : Sum (length_of s) whole.rows ≡ l + l'
    long = whole.sum (length_of s) ∙ omega (arith, ups.long, downs.long)

    frees : Frees before ups.rows + Frees before downs.rows ≡ k + k'
    frees = omega (arith, ups.frees, downs.frees)

    pub too_long : {bound : ℕ} → bound < l + l' → Ended s n bound before run a b (change_refusal before 18 0 0)
    too_long h = refused (λ i. omega (arith, in_reach N whole.path i, long))

    module _ {bound : ℕ} (near : l + l' ≤ bound) where
      pub all_marked : k + k' ≡ 0 → Ended s n bound before run a b (change_refusal before 19 0 0)
      all_marked z =
          passed (record { rows = whole.rows; path = whole.path; short = omega (arith, long) })
          (refused (none_free N before whole (frees ∙ z)))

      pub all_taken : {mid after : List ℕ} → k + k' ≢ 0 → ClimbHeld parent half a t run before mid
          → ClimbHeld parent half b t run mid after
          → Ended s n bound before run a b (Ok (k + k'), after)
      all_taken {mid} {after} z p q =
          passed (record { rows = whole.rows; path = whole.path; short = omega (arith, long) })
          (passed (some_free N before whole (λ e. z (sym frees ∙ e)))
          (rw frees at (claimed N before whole both)))
        where
          first : Held ups.rows run before mid
          first = rw (rise_only rooted R.pair.first p.rise ups.rise) at p.held

          second : Held downs.rows run mid after
          second = rw (rise_only rooted R.pair.second q.rise downs.rise) at q.held

          both : Held (ups.rows ++ downs.rows) run before after
          both = held_both (λ e. omega (arith, R.number.above)) first second
