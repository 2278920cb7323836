-- What a scan takes: a pair by its key, which the test is for, beside the length and the weight of its path. Where the
-- key is the length, that is what a listing considers.
use Rattle.std.specs.Prelude.{ℕ, ℤ}
use Rattle.pages.specs.Listing.{Entry}
use Rattle.pages.specs.Passes.{Passes}

-- the key of a and b, as Key says it, is within the test
pub record KeyWithin (Key : ℕ → ℕ → ℕ → Type 0) (Within : ℕ → Type 0) (a b : ℕ) : Type 0 where
  pub key : ℕ
  pub is : Key a b key
  pub within : Within key

-- the pairs below n whose key is within its test, of any length, and whose weight is with Heavy
abbrev pub Keyed : (ℕ → ℕ → ℕ → ℤ → Type 0) → (ℕ → ℕ → ℕ → Type 0) → (ℕ → Type 0) → (ℤ → Type 0) → ℕ → Entry → Type 0
Keyed Value Key Within Heavy n =
    Passes (λ a b l w. Value a b l w × KeyWithin Key Within a b) (λ l. Unit {0}) Heavy n
