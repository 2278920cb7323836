-- What a walk leaves in four arrays: for each node its parent, the half-branch by which it was reached and its place in
-- the order; for each place the node.
use Rattle.std.specs.Prelude.{ℕ, ◌-◌, ◌*◌, ◌≤◌, ◌<◌, ◌≡◌, List, length}
use Rattle.arrays.specs.At.{at}
use Rattle.net.specs.Graph.{First, Joined}
use Rattle.net.specs.Net.{first_end, second_end}
use Rattle.reach.specs.work.Half.{from}

-- v was reached by the half-branch half v, from its parent
pub record Reached (us vs : ℕ → ℕ) (rows : ℕ) (parent half : List ℕ) (v : ℕ) : Type 0 where
  pub fits : at half v < 2 * rows
  pub leaves : from us vs (at half v) ≡ at parent v
  pub leads : from vs us (at half v) ≡ v

-- the place of the parent of the node at place i
abbrev pub High : List ℕ → List ℕ → List ℕ → ℕ → ℕ
High parent order place i = at place (at parent (at order i))

-- along the order the places of the parents do not fall, and under one parent the half-branches fall
abbrev pub Falls : ℕ → List ℕ → List ℕ → List ℕ → List ℕ → Type 0
Falls m parent half order place =
    (i j : ℕ) → 0 < i → i < j → j < m
    → (High parent order place i ≤ High parent order place j)
    × (High parent order place i ≡ High parent order place j → at half (at order j) < at half (at order i))

-- rows below `rows` join us r and vs r; m nodes are joined to the node start, each is in the order once, parents before
-- children
pub record WalkedFrom (start : ℕ) (us vs : ℕ → ℕ) (rows m : ℕ) (parent half order place : List ℕ) : Type 0 where
  pub long : (length parent ≡ 4096) × (length half ≡ 4096) × (length order ≡ 4096) × (length place ≡ 4096)
  pub some : (0 < m) × (m ≤ 4096)
  pub root : at order 0 ≡ start
  pub top : (at parent start ≡ start) × (at half start ≡ 0)
  pub within : (i : ℕ) → i < m → at order i < 4096
  pub back : (i : ℕ) → i < m → at place (at order i) ≡ i
  pub joined : (i : ℕ) → i < m → Joined us vs (First rows) start (at order i)
  pub listed : (v : ℕ) → v < 4096 → Joined us vs (First rows) start v → (at place v < m) × (at order (at place v) ≡ v)
  pub child : (i : ℕ) → 0 < i → i < m → Reached us vs rows parent half (at order i)
  pub above : (i : ℕ) → 0 < i → i < m
      → (High parent order place i < i) × (at order (High parent order place i) ≡ at parent (at order i))
  pub falls : Falls m parent half order place
  pub others : (v : ℕ) → v < 4096 → ¬ Joined us vs (First rows) start v
      → (at parent v ≡ 4096) × (at half v ≡ 0) × (at place v ≡ 0)
  pub rest : (i : ℕ) → m ≤ i → i < 4096 → at order i ≡ 0

-- the walk from the root, node 0
abbrev pub Walked : (us vs : ℕ → ℕ) (rows m : ℕ) (parent half order place : List ℕ) → Type 0
Walked = WalkedFrom 0

-- the walk's arrays of the net of n nodes that the table s holds, whatever its order
pub record WalkOf (s : List ℕ) (n : ℕ) (parent half place : List ℕ) : Type 0 where
  pub order : List ℕ
  pub walked : Walked (first_end s) (second_end s) (n - 1) n parent half order place
