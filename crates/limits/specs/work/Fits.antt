-- The test that a length must pass, and what it is to decide one.
use Rattle.std.specs.Prelude.{ℕ, ◌≤◌, ◌≡◌, Bool, true, false}
use Rattle.limits.specs.declared.Limit.{Limit}

-- a length within a limit: at most it; or, where it is exact, of that length and no other
abbrev pub Within : Bool → ℕ → ℕ → Type 0
Within false most x = x ≤ most
Within true most x = x ≡ most

abbrev pub Fits : Limit → ℕ → Type 0
Fits limit = Within limit.exact limit.most

-- r is the answer to whether P holds
pub record Decides (P : Type 0) (r : Bool) : Type 0 where
  pub holds : r ≡ true → P
  pub fails : r ≡ false → P → ⊥
