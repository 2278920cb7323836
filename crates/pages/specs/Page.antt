-- A page of the listing.
use Rattle.std.specs.Prelude.{ℕ, ◌+◌, ◌≡◌, List, length, take}
use Rattle.pages.specs.Listing.{Entry, After, Listing}

-- those that qualify and come strictly after the starting pair
abbrev pub Following : (Entry → Type 0) → ℕ → ℕ → Entry → Type 0
Following P s t e = P e × After s t e

-- the first of those that follow the start, as many as there is room for, and how many are left over
pub record Page (P : Entry → Type 0) (s t room : ℕ) (given : List Entry) (left : ℕ) : Type 0 where
  pub rows : List Entry
  pub all : Listing (Following P s t) rows
  pub fit : given ≡ take room rows
  pub rest : length given + left ≡ length rows
