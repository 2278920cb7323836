-- Pairs that come again: what the search for the first of them gives.
use Rattle.std.specs.Prelude.{ℕ, ◌+◌, ◌*◌, ◌≤◌, ◌<◌, ◌≡◌, ◌⊎◌}
use Rattle.mesh.specs.Mesh.{RepeatsPair}

-- a row's cell: 256 times its lower end, and its higher end
abbrev pub Cell : ℕ → ℕ → ℕ → Type 0
Cell p q c = ((p < q) × (c ≡ 256 * p + q)) ⊎ ((q ≤ p) × (c ≡ 256 * q + p))

-- the place of a cell among the 16,384 cells from `from` on; 16,384 for one that is not among them
pub record SlotOf (from c j : ℕ) : Type 0 where
  pub below : c < from → j ≡ 16384
  pub among : from ≤ c → c < from + 16384 → from + j ≡ c
  pub past : from + 16384 ≤ c → j ≡ 16384

pub record SeenAs (j w : ℕ) : Type 0 where
  pub among : j < 16384 → w ≡ 1
  pub past : 16384 ≤ j → w ≡ 0

-- of the rows below limit with cells among these the first that repeats a pair, or limit
pub record RepeatIn (u v : ℕ → ℕ) (from limit r : ℕ) : Type 0 where
  pub within : r ≤ limit
  pub before : (i c : ℕ) → i < r → Cell (u i) (v i) c → from ≤ c → c < from + 16384 → ¬ RepeatsPair u v i
  pub here : r < limit → RepeatsPair u v r

-- how many rows are looked at: all, or as many as cannot all be different
pub record Top (k t : ℕ) : Type 0 where
  pub short : k ≤ 65537 → t ≡ k
  pub long : 65537 ≤ k → t ≡ 65537

-- of k rows the first that repeats a pair
pub record FirstRepeat (u v : ℕ → ℕ) (k r : ℕ) : Type 0 where
  pub within : r < k
  pub before : (i : ℕ) → i < r → ¬ RepeatsPair u v i
  pub here : RepeatsPair u v r
