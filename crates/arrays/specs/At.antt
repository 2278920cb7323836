-- What stands at a place of a list.
use Rattle.std.specs.Prelude.{ℕ, List, get_or}

-- what stands at place i, and 0 past the end
abbrev pub at : List ℕ → ℕ → ℕ
at l i = get_or l i 0
