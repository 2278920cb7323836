-- Working statements of private functions, no part of the promises: the climb from a node, and the sweep over the
-- order.
use Rattle.std.specs.Prelude.{ℕ, ◌+◌, ◌-◌, ◌*◌, ◌≤◌, ◌<◌, ◌≡◌, ◌≢◌, List, ℤ, length}
use Rattle.arrays.specs.At.{at}
use Rattle.table.specs.work.Diff.{Diff}
use Rattle.net.specs.work.Rooted.{Above}
use Rattle.net.specs.Value.{Value}
use Rattle.paths.specs.work.Ground.{Ground}
use Rattle.table.specs.work.Lift.{row_lift, sum_lift, sum_end}

-- the first i flags of 4,096 are not set
pub record Cleared (i : ℕ) (above : List ℕ) : Type 0 where
  pub long : length above ≡ 4096
  pub each : (t : ℕ) → t < i → at above t ≡ 0

module _ {n : ℕ} {parent order place bl bw : List ℕ} (g : Ground n parent order place bl bw) (a : ℕ) where
  -- the path from a to x has length l and lifted weight w, and both are what i branches can have at the most
  pub record Far (x l w i : ℕ) : Type 0 where
    pub weight : ℤ
    pub value : Value g.u g.v g.k g.long g.heavy a x l weight
    pub lift : Diff w sum_lift weight
    pub low : sum_lift ≤ w + 1000000 * i
    pub high : w ≤ sum_lift + 1000000 * i
    pub short : l ≤ 1000000 * i

  -- the climb from a has come to x, and marked what it passed below x
  pub record Climbed (x l w : ℕ) (above : List ℕ) : Type 0 where
    pub up : Above (at parent) x a
    pub far : Far x l w (at place a - at place x)
    pub is : (t : ℕ) → t < n → at above t ≡ 1 → Above (at parent) t a × ¬ Above (at parent) t x
    pub rest : (t : ℕ) → t < n → (at above t ≡ 1 → ⊥) → Above (at parent) t a → Above (at parent) t x

  -- the path from a to node 0, and the nodes on it marked
  pub record Marked (l w : ℕ) (above : List ℕ) : Type 0 where
    pub far : Far 0 l w 4096
    pub is : (t : ℕ) → t < n → t ≢ 0 → at above t ≡ 1 → Above (at parent) t a
    pub not : (t : ℕ) → t < n → t ≢ 0 → (at above t ≡ 1 → ⊥) → ¬ Above (at parent) t a

  -- the places below i are done
  pub record Swept (i : ℕ) (len wt : List ℕ) : Type 0 where
    pub done : (j : ℕ) → j < i → Far (at order j) (at len (at order j)) (at wt (at order j)) (4096 + j)

-- the climb, of any net of which it is asked
pub record Climbable (n a : ℕ) (parent place bl bw : List ℕ) : Type 0 where
  pub order : List ℕ
  pub ground : Ground n parent order place bl bw
  pub node : a < n

pub record Climbing (n a : ℕ) (parent place bl bw : List ℕ) (x l w : ℕ) (above : List ℕ) : Type 0 where
  pub climbed : (k : Climbable n a parent place bl bw) → Climbed k.ground a x l w above
  pub long : length above ≡ 4096

-- the sweep, of any net of which it is asked
pub record Sweepable (n a l w : ℕ) (parent order bl bw above : List ℕ) : Type 0 where
  pub place : List ℕ
  pub ground : Ground n parent order place bl bw
  pub node : a < n
  pub marked : Marked ground a l w above

pub record Sweeping (n a l w : ℕ) (parent order bl bw above : List ℕ) (i : ℕ) (len wt : List ℕ) : Type 0 where
  pub swept : (k : Sweepable n a l w parent order bl bw above) → Swept k.ground a i len wt
  pub len_long : length len ≡ 4096
  pub wt_long : length wt ≡ 4096

-- one step, as numbers: nearer by a branch of length f and lifted weight y where the flag is 1, further by it otherwise
pub record Steps (flag l w f y : ℕ) : Type 0 where
  pub nearer : flag ≡ 1 → f ≤ l
  pub l_small : l ≤ 9000000000
  pub w_small : w ≤ sum_end
  pub w_big : 2000000 ≤ w
  pub f_small : f ≤ 1000000
  pub y_small : y ≤ 2000000

pub record StepMade (flag l w f y l₁ w₁ : ℕ) : Type 0 where
  pub near_l : flag ≡ 1 → l₁ + f ≡ l
  pub near_w : flag ≡ 1 → w₁ + y ≡ w + row_lift
  pub far_l : (flag ≡ 1 → ⊥) → l₁ ≡ l + f
  pub far_w : (flag ≡ 1 → ⊥) → w₁ + row_lift ≡ w + y
