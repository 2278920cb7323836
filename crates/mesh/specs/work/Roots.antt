-- What the search from one root gives: the greatest number of rows on a simple path from there, and the first end of
-- one that has so many.
use Rattle.std.specs.Prelude.{ℕ, ◌≤◌}
use Rattle.mesh.specs.Mesh.{OneRing, PathWith}

pub record FromRoot (u v : ℕ → ℕ) (k a l b : ℕ) : Type 0 where
  pub one : OneRing u v k
  pub some : PathWith u v k a b l
  pub most : (y m : ℕ) → PathWith u v k a y m → m ≤ l
  pub first : (y : ℕ) → PathWith u v k a y l → b ≤ y
