-- A pair's figures, its path's length and lifted weight, from spots: with i and j the spots of its nodes and m the spot
-- of the node where their climbs meet, the length is far i + far j − 2 far m, and the weight likewise, lifted.
use Rattle.std.specs.Prelude.{ℕ, ◌+◌, ◌*◌, ◌≤◌, ◌<◌, ◌≡◌, List}
use Rattle.arrays.specs.At.{at}
use Rattle.table.specs.work.Lift.{sum_lift, sum_end}
use Rattle.layout.specs.work.Spotted.{LeastOf}
use Rattle.figures.specs.work.Bins.{Tables}

-- above: by spot, the spot of the parent; far and heavy: by spot, the distance and the lifted weight from node 0
pub record Joins (above far heavy : List ℕ) (i j l x : ℕ) : Type 0 where
  pub meet : ℕ
  pub least : LeastOf (at above) (i + 1) j meet
  pub length : l + 2 * at far meet ≡ at far i + at far j
  pub weight : x + 2 * at heavy meet ≡ at heavy i + at heavy j + sum_lift

-- l and x are the figures of the nodes a and b, whichever of the two has the earlier spot
pub record Figures (spot above far heavy : List ℕ) (a b l x : ℕ) : Type 0 where
  pub rises : at spot a < at spot b → Joins above far heavy (at spot a) (at spot b) l x
  pub falls : at spot b < at spot a → Joins above far heavy (at spot b) (at spot a) l x

-- n nodes have spots of their own, and from what stands there every pair's figures come with no sum that wraps
pub record Figurable (n : ℕ) (spot above far heavy : List ℕ) : Type 0 where
  pub small : n ≤ 4096
  pub spots : (a : ℕ) → a < n → at spot a < n
  pub one : (a b : ℕ) → a < n → b < n → at spot a ≡ at spot b → a ≡ b
  pub parents : (k : ℕ) → k < n → at above k < n
  pub far_small : (i : ℕ) → i < n → at far i < sum_end
  pub heavy_small : (i : ℕ) → i < n → at heavy i < sum_end
  pub far_room : (i j m : ℕ) → i < j → j < n → LeastOf (at above) (i + 1) j m → 2 * at far m ≤ at far i + at far j
  pub heavy_room : (i j m : ℕ) → i < j → j < n → LeastOf (at above) (i + 1) j m
      → 2 * at heavy m ≤ at heavy i + at heavy j + sum_lift
  pub heavy_most : (i j m : ℕ) → i < j → j < n → LeastOf (at above) (i + 1) j m
      → at heavy i + at heavy j + sum_lift < 2 * at heavy m + sum_end

-- what is asked for the figures of two nodes
pub record FigureAsked (n : ℕ) (spot above tail front gap far heavy : List ℕ) (a b : ℕ) : Type 0 where
  pub figurable : Figurable n spot above far heavy
  pub tables : Tables above tail front gap
  pub order : a < b
  pub node : b < n

-- and between two spots, i before j
pub record Crossing (above tail front gap far heavy : List ℕ) (i j : ℕ) : Type 0 where
  pub n : ℕ
  pub spot : List ℕ
  pub figurable : Figurable n spot above far heavy
  pub tables : Tables above tail front gap
  pub order : i < j
  pub node : j < n
