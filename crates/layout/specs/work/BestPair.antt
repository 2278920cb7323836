-- The best pair of nodes of a net. The code carries a pair's length and weight lifted by 2^40.
use Rattle.std.specs.Prelude.{ℕ, ◌+◌, ◌≤◌, ◌<◌, ◌≡◌, ◌⊎◌, ℤ}
use Rattle.table.specs.work.Diff.{Diff}
use Rattle.spans.specs.work.Pairs.{best4, Le}
use Rattle.spans.specs.declared.across.Best.{Best}
use Rattle.parts.specs.work.Lift.{key_lift}
use Rattle.table.specs.work.Lift.{sum_lift}

-- the n nodes' pairs; Value x y l w: the path between x and y has length l and weight w
module _ (Value : ℕ → ℕ → ℕ → ℤ → Type 0) (n : ℕ) where
  -- b is the pair of x and y, lower first, with the length and the weight of the path between them
  pub record Carried (x y : ℕ) (b : Best) : Type 0 where
    pub lower : x < y
    pub fits : y < n
    pub l : ℕ
    pub w : ℤ
    pub value : Value x y l w
    pub length : b.length ≡ key_lift + l
    pub weight : Diff b.weight key_lift w
    pub near_low : key_lift ≤ b.weight + sum_lift
    pub near_high : b.weight < key_lift + sum_lift
    pub low : b.low ≡ x
    pub high : b.high ≡ y

  -- r is at least as good as every pair within the length test, and is one of them; or there is none
  pub record BestPair (Within : ℕ → Type 0) (r : Best) : Type 0 where
    pub beats : (x y : ℕ) → x < y → y < n → (b : Best) × (c : Carried x y b) × (Within c.l → Le b r)
    pub comes : (r ≡ best4 0 0 0 0) ⊎ ((c : Carried r.low r.high r) × Within c.l)
