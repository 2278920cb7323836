-- Pages asked for one after the other until none is left.
use Rattle.std.specs.Prelude.{ℕ, ◌≤◌, ◌<◌, ◌≡◌, List, [], ◌∷◌, ◌++◌}
use Rattle.pages.specs.Listing.{Entry}
use Rattle.pages.specs.Page.{Page}

-- pages from the start (s, t) on, each with room for one row or more, each going on after the last row given, until
-- none is left; joined is all that they gave
pub data PagesFrom (P : Entry → Type 0) : (s t : ℕ) (joined : List Entry) → Type 0 where
  ends : {s t room : ℕ} {given : List Entry} → 1 ≤ room → Page P s t room given 0 → PagesFrom P s t given
  goes : {s t room left : ℕ} {given later : List Entry} (front : List Entry) (e : Entry)
      → 1 ≤ room → Page P s t room given left → 0 < left → given ≡ front ++ e ∷ []
      → PagesFrom P e.low e.high later → PagesFrom P s t (given ++ later)
