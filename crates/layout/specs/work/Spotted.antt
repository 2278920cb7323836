-- What `spots_of` gives: each node's spot, and by spot what tells the path between any two nodes: the spots of the
-- parents, of which the least among those behind the one and up to the other is where their climbs meet, and the
-- distance and the lifted weight from node 0.
use Rattle.std.specs.Prelude.{ℕ, ◌+◌, ◌*◌, ◌≤◌, ◌<◌, ◌≡◌, List, ℤ}
use Rattle.arrays.specs.At.{at}
use Rattle.table.specs.work.Diff.{Diff}
use Rattle.table.specs.work.Lift.{sum_lift, sum_end}
use Rattle.layout.specs.work.Laid.{Spots}

-- m is the least f of the numbers from a to b
pub record LeastOf (f : ℕ → ℕ) (a b m : ℕ) : Type 0 where
  pub all : (k : ℕ) → a ≤ k → k ≤ b → m ≤ f k
  pub some : (k : ℕ) × (a ≤ k) × (k ≤ b) × (f k ≡ m)

-- Value x y l w: the path between x and y has length l and weight w
module _ (Value : ℕ → ℕ → ℕ → ℤ → Type 0) where
  -- the path between x and y, either way, from their spots i and j and the spot m of the node where their climbs meet
  pub record Crossed (far heavy : List ℕ) (x y i j m : ℕ) : Type 0 where
    pub l : ℕ
    pub w : ℤ
    pub value : Value x y l w
    pub back : Value y x l w
    pub length : l + 2 * at far m ≡ at far i + at far j
    pub weight : Diff (at heavy i + at heavy j) (2 * at heavy m) w
    pub low : 2 * at heavy m ≤ at heavy i + at heavy j + sum_lift
    pub high : at heavy i + at heavy j + sum_lift < 2 * at heavy m + sum_end

  pub record Spotted (n : ℕ) (spot above far heavy : List ℕ) : Type 0 where
    pub spots : Spots n spot
    pub onto : (s : ℕ) → s < n → (x : ℕ) × (x < n) × (at spot x ≡ s)
    pub parents : (k : ℕ) → k < n → at above k < n
    pub far_small : (k : ℕ) → k < n → at far k < sum_end
    pub heavy_small : (k : ℕ) → k < n → at heavy k < sum_end
    pub joins : (x y m : ℕ) → x < n → y < n → at spot x < at spot y
        → LeastOf (at above) (at spot x + 1) (at spot y) m → Crossed far heavy x y (at spot x) (at spot y) m
