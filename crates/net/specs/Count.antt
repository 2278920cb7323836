-- How many numbers have a property: the length of a list that holds each of them exactly once.
use Rattle.std.specs.Prelude.{ℕ, ◌≡◌, List, length}
use Rattle.arrays.specs.Members.{In, Distinct}

pub record Count (P : ℕ → Type 0) (k : ℕ) : Type 0 where
  pub list : List ℕ
  pub once : Distinct list
  pub only : (x : ℕ) → In x list → P x
  pub all : (x : ℕ) → P x → In x list
  pub long : length list ≡ k
