-- What a listing considers, and what vet compares a list with.
use Rattle.std.specs.Prelude.{ℕ, List, ℤ}
use Rattle.pages.specs.Listing.{Entry}
use Rattle.pages.specs.Passes.{Qualifies}
use Rattle.ground.specs.PathOf.{PathOf}

-- the pairs of the net of n nodes of table s within a length test, weighing at least the floor under the marks
abbrev pub Considered : (ℕ → Type 0) → List ℕ → List ℕ → ℕ → ℤ → Entry → Type 0
Considered Within s marks n floor = Qualifies (PathOf s marks n) Within floor n
