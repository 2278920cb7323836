-- What a branch weighs under its mark: its own weight where it is free, and the lesser of 0 and its own weight where it
-- is marked.
use Rattle.std.specs.Prelude.{cond, List, ℕ, zero, suc, ℤ, pos}
use Rattle.std.specs.Int.Signed.{le_z}
use Rattle.arrays.specs.At.{at}
use Rattle.net.specs.Net.{weight_of}

-- x where x is at most y, y where not
abbrev pub lesser : ℤ → ℤ → ℤ
lesser x y = cond (le_z x y) x y

-- by the mark (zero is free), and the branch's own weight
unfoldable pub weighs : ℕ → ℤ → ℤ
weighs zero w = w
weighs (suc m) w = lesser (pos 0) w

-- row r of the table s under the marks
unfoldable pub weight_under : List ℕ → List ℕ → ℕ → ℤ
weight_under s marks r = weighs (at marks r) (weight_of s r)
