-- What the functions of laid.rt and lib.rt promise each other: spots, and arrays by spot.
use Rattle.std.specs.Prelude.{ℕ, ◌+◌, ◌≤◌, ◌<◌, ◌≡◌, ◌≢◌, List, length, get_or}
use Rattle.arrays.specs.At.{at}

-- n nodes, each with a spot of its own
pub record Spots (n : ℕ) (spot : List ℕ) : Type 0 where
  pub some : 0 < n
  pub small : n ≤ 4096
  pub within : (v : ℕ) → v < n → at spot v < n
  pub one : (x y : ℕ) → x < n → y < n → at spot x ≡ at spot y → x ≡ y

-- the nodes from lo to i have put what f gives for them at their spots, and elsewhere is none
pub record LaidOf {A : Type 0} (none : A) (lo i : ℕ) (spot : List ℕ) (f : ℕ → A) (to : List A) : Type 0 where
  pub long : length to ≡ 4096
  pub each : (v : ℕ) → lo ≤ v → v < i → get_or to (at spot v) none ≡ f v
  pub rest : (s : ℕ) → s < 4096 → ((v : ℕ) → lo ≤ v → v < i → at spot v ≢ s) → get_or to s none ≡ none

-- the same of numbers, and elsewhere is 0
abbrev pub Laid : ℕ → ℕ → List ℕ → (ℕ → ℕ) → List ℕ → Type 0
Laid = LaidOf 0

-- what is asked to lay a net out: spots, with a span in front of each, and heads and parents that are nodes
pub record Layable (n : ℕ) (parent head size spot : List ℕ) : Type 0 where
  pub spots : Spots n spot
  pub spans : (v : ℕ) → v < n → at spot v + at size v ≤ n
  pub heads : (v : ℕ) → 1 ≤ v → v < n → at head v < n
  pub parents : (v : ℕ) → 1 ≤ v → v < n → at parent v < n

-- the ends, heads, parents and names of all spots, and the distances and lifted weights from the root: d and w are
-- those of the nodes
pub record LaidOut (n : ℕ) (parent head size spot d w stops heads parents names far heavy : List ℕ) : Type 0 where
  pub ended : Laid 0 n spot (λ v. at spot v + at size v) stops
  pub top : Laid 1 n spot (λ v. at spot (at head v)) heads
  pub above : Laid 1 n spot (λ v. at spot (at parent v)) parents
  pub named : Laid 0 n spot (λ v. v) names
  pub distances : Laid 0 n spot (λ v. at d v) far
  pub weights : Laid 0 n spot (λ v. at w v) heavy
