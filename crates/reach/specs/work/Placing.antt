-- The places of an order: what is said of some, which no array need have; what finding them asks and leaves.
use Rattle.std.specs.Prelude.{ℕ, ◌≤◌, ◌<◌, ◌≡◌, ◌≢◌, List, length}
use Rattle.arrays.specs.At.{at}

-- P of some places
pub record Placed (P : List ℕ → Type 0) : Type 0 where
  pub place : List ℕ
  pub holds : P place

-- n nodes are in the order, each once
pub record Once (n : ℕ) (order : List ℕ) : Type 0 where
  pub few : n ≤ 4096
  pub within : (i : ℕ) → i < n → at order i < 4096
  pub apart : (i j : ℕ) → i < j → j < n → at order i ≢ at order j

-- the first n of the order have their places, and every other node 0
pub record Places (n : ℕ) (order place : List ℕ) : Type 0 where
  pub long : length place ≡ 4096
  pub back : (i : ℕ) → i < n → at place (at order i) ≡ i
  pub others : (v : ℕ) → v < 4096 → ((i : ℕ) → i < n → at order i ≢ v) → at place v ≡ 0
