-- The listing as its caller sees it: a page in lent bytes.
use Rattle.std.specs.Prelude.{ℕ, ◌*◌, ◌/◌, ◌≡◌, List, ◌++◌, length, drop}
use Rattle.pages.specs.Listing.{Entry}
use Rattle.pages.specs.Page.{Page}
use Rattle.pages.specs.Bytes.{rows}

-- what a call with the lent bytes old gives: a page of as many rows as fit, 16 bytes each, and the bytes beyond them
-- unchanged
pub record Paged (P : Entry → Type 0) (s t : ℕ) (old : List ℕ) (given left : ℕ) (now : List ℕ) : Type 0 where
  pub some : List Entry
  pub page : Page P s t (length old / 16) some left
  pub count : given ≡ length some
  pub bytes : now ≡ rows some ++ drop (16 * given) old
