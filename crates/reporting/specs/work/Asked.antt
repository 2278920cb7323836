-- Working statements: pages of the listing, asked for one after the other.
use Rattle.std.specs.Prelude.{ℕ, ◌+◌, ◌-◌, ◌*◌, ◌≤◌, ◌≡◌, List, ℤ, length}
use Rattle.table.specs.Header.{nodes_of, bound_of}
use Rattle.tree.specs.Accept.{acceptance, Accepts}
use Rattle.net.specs.work.Net.{Net}
use Rattle.pages.specs.Listing.{Entry}
use Rattle.pages.specs.Passes.{Qualifies}
use Rattle.pages.specs.Paged.{Paged}
use Rattle.ground.specs.PathOf.{PathOf}

-- a call of the listing is not refused: an accepted table, a mark for each branch, room for a row
pub record ListingReady (s marks rows : List ℕ) : Type 0 where
  pub accepted : Accepts s (acceptance (nodes_of s) (bound_of s))
  pub marked : length marks ≡ nodes_of s - 1
  pub room : 16 ≤ length rows

-- what the listing considers
abbrev pub Counted : List ℕ → List ℕ → ℤ → Entry → Type 0
Counted s marks floor = Qualifies (PathOf s marks (nodes_of s)) (λ l. l ≤ bound_of s) floor (nodes_of s)

-- a call from (low, high), lent room for a row or more, left these rows, wrote so many and left so many over
pub record Asked (s marks : List ℕ) (floor : ℤ) (low high : ℕ) (rows : List ℕ) (written left : ℕ) : Type 0 where
  pub net : Net s (nodes_of s)
  pub lent : List ℕ
  pub room : 16 ≤ length lent
  pub page : Paged (Counted s marks floor) low high lent written left rows
  pub inside : 16 * written ≤ length rows
  pub few : written + left ≤ 16777216
