-- Working statements of the private functions of `join` (offer, prefer, pick, advance, try_pair), and no part of the
-- promises.
use Rattle.std.specs.Prelude.{ℕ, ◌+◌, ◌^◌, ◌≤◌, ◌<◌, ◌≡◌, Bool, true, ◌⊎◌, List}
use Rattle.arrays.specs.At.{at}
use Rattle.spans.specs.work.Spans.{InSpan, By, Sorted, Nodes}
use Rattle.spans.specs.work.Pairs.{Le, Small, pair_across}
use Rattle.spans.specs.declared.across.Best.{Best}

-- r is the better of two
pub record Offered (old new r : Best) : Type 0 where
  pub keeps : Le old r
  pub beats : Le new r
  pub comes : (r ≡ old) ⊎ (r ≡ new)

-- partners of one place: q is at least as good as p
pub record Better (name d w : List ℕ) (p q : ℕ) : Type 0 where
  pub weight : at w p ≤ at w q
  pub near : at w q ≤ at w p → at d q ≤ at d p
  pub node : at w q ≤ at w p → at d p ≤ at d q → at name q ≤ at name p

-- r is the better partner of two, the old one counting where one was passed
pub record Preferred (name d w : List ℕ) (m j old new r : ℕ) : Type 0 where
  pub keeps : m < j → Better name d w old r
  pub beats : Better name d w new r
  pub comes : (r ≡ new) ⊎ ((m < j) × (r ≡ old))

-- the same in both modes: where the limit is meant exactly, the farther goes first, and the better of those equally far
pub record Ahead (exact : Bool) (name d w : List ℕ) (p q : ℕ) : Type 0 where
  pub far : exact ≡ true → at d p ≤ at d q
  pub better : (exact ≡ true → at d q ≤ at d p) → Better name d w p q

-- r is ahead of both, the old one counting where one was passed, and the new one being no nearer
pub record Picked (exact : Bool) (name d w : List ℕ) (m j old new r : ℕ) : Type 0 where
  pub keeps : m < j → at d old ≤ at d new → Ahead exact name d w old r
  pub beats : (m < j → at d old ≤ at d new) → Ahead exact name d w new r
  pub comes : (r ≡ new) ⊎ ((m < j) × (r ≡ old))

pub record Walkable (d down : List ℕ) (m e key : ℕ) : Type 0 where
  pub within : e ≤ 4096
  pub nodes : Nodes down m e
  pub sorted : Sorted (By d) down m e
  pub keys : Small d
  pub here : key < 2 ^ 62

-- the span is passed from m to j, and node is the best partner there
pub record Sofar (exact : Bool) (name d w down : List ℕ) (m e j node : ℕ) : Type 0 where
  pub low : m ≤ j
  pub high : j ≤ e
  pub small : node < 4096
  pub there : m < j → InSpan down m j node
  pub best : (p : ℕ) → m ≤ p → p < j → Ahead exact name d w (at down p) node

-- from j to j' all is within the limit, and the next is not
pub record Advanced (d down : List ℕ) (e key limit j j' : ℕ) : Type 0 where
  pub low : j ≤ j'
  pub within : (p : ℕ) → j ≤ p → p < j' → key + at d (at down p) ≤ limit
  pub stop : j' < e → limit < key + at d (at down j')

-- the pair of x and y was offered, where a partner was passed and the pair is within the length test
pub record Tried (Within : ℕ → Type 0) (name ku wu d w : List ℕ) (m j x y : ℕ) (old new : Best) : Type 0 where
  pub keeps : Le old new
  pub beats : m < j → Within (at ku x + at d y) → Le (pair_across name ku wu d w x y) new
  pub comes : (new ≡ old) ⊎ ((m < j) × Within (at ku x + at d y) × (new ≡ pair_across name ku wu d w x y))
