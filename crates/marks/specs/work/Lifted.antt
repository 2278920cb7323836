-- What a branch weighs under its mark, lifted by 1,000,000, as the sweeps carry it.
use Rattle.std.specs.Prelude.{◌≡◌, List, ℕ, min}
use Rattle.arrays.specs.At.{at}
use Rattle.table.specs.work.Lift.{LiftedOf}
use Rattle.marks.specs.Mark.{Free}
use Rattle.table.specs.work.Lift.{row_lift}

-- the same lifted by 1,000,000: a free row's own lift, a marked one's the lesser of that and 1,000,000. A row without a
-- mark counts as free
pub record LiftedUnder (s marks : List ℕ) (r q : ℕ) : Type 0 where
  pub lift : ℕ
  pub own : LiftedOf s r lift
  pub free : Free (at marks r) → q ≡ lift
  pub marked : (Free (at marks r) → ⊥) → q ≡ min lift row_lift
