-- What the test of whether a row stands says.
use Rattle.std.specs.Prelude.{◌≡◌, Bool, true, false, List, ℕ}
use Rattle.table.specs.Row.{Stands}

-- a test says whether they do
pub record Standing (s : List ℕ) (r : ℕ) (q : Bool) : Type 0 where
  pub there : q ≡ true → Stands s r
  pub none : q ≡ false → Stands s r → ⊥
