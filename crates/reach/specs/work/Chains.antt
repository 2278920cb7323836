-- The chains of half-branches that leave each node.
use Rattle.std.specs.Prelude.{ℕ, ◌-◌, ◌*◌, ◌≤◌, ◌<◌, ◌≡◌, ◌≢◌, List, length}
use Rattle.arrays.specs.At.{at}
use Rattle.reach.specs.work.Half.{from}

-- x is one more than the greatest h below k with q h ≡ v, or 0 where there is none
pub record Last (q : ℕ → ℕ) (v k x : ℕ) : Type 0 where
  pub below : x ≤ k
  pub hit : 0 < x → q (x - 1) ≡ v
  pub none : (h : ℕ) → x ≤ h → h < k → q h ≢ v

-- after the half-branches below k
pub record Chained (us vs : ℕ → ℕ) (rows k : ℕ) (first next : List ℕ) : Type 0 where
  pub within : k ≤ 2 * rows
  pub long : (length first ≡ 4096) × (length next ≡ 8192)
  pub firsts : (v : ℕ) → v < 4096 → Last (from us vs) v k (at first v)
  pub nexts : (h : ℕ) → h < k → Last (from us vs) (from us vs h) h (at next h)
