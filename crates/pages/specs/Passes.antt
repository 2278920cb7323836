-- Which entries qualify.
use Rattle.std.specs.Prelude.{ℕ, ◌<◌, ℤ, ◌≤ℤ◌}
use Rattle.pages.specs.Listing.{Entry}

-- a pair of nodes below n, lower first, with the length and the weight of its path (as Value says), both within their
-- tests
pub record Passes (Value : ℕ → ℕ → ℕ → ℤ → Type 0) (Within : ℕ → Type 0) (Heavy : ℤ → Type 0) (n : ℕ) (e : Entry) : Type
    0 where
  pub pair : e.low < e.high
  pub node : e.high < n
  pub path : Value e.low e.high e.length e.weight
  pub short : Within e.length
  pub heavy : Heavy e.weight

-- what a listing considers: within the length test, and weighing at least the floor
abbrev pub Qualifies : (ℕ → ℕ → ℕ → ℤ → Type 0) → (ℕ → Type 0) → ℤ → ℕ → Entry → Type 0
Qualifies Value Within floor n = Passes Value Within (λ w. floor ≤ℤ w) n
