-- A spanning tree hung up at node a: for each node its parent, the order in which they were hung up, and its place in
-- that order, 256 for a node that does not hang in it.
use Rattle.std.specs.Prelude.{ℕ, ◌≤◌, ◌<◌, ◌≡◌, ◌⊎◌, ◌≢◌, List, length}
use Rattle.arrays.specs.At.{at}
use Rattle.net.specs.Graph.{Ends}
use Rattle.mesh.specs.work.Rows.{EndsApart}

-- t is x, or on the climb from x to the root a
pub data AboveIn (a : ℕ) (par : ℕ → ℕ) (t : ℕ) : ℕ → Type 0 where
  self : AboveIn a par t t
  up : {x y : ℕ} → x ≢ a → par x ≡ y → AboveIn a par t y → AboveIn a par t x

-- each node but a has a parent, earlier in place, and a row to it
pub record TreeAt (u v : ℕ → ℕ) (k n a : ℕ) (par row place : ℕ → ℕ) : Type 0 where
  pub root : a < n
  pub good : (r : ℕ) → r < k → (u r < n) × (v r < n) × (u r ≢ v r)
  pub fits : (x : ℕ) → x < n → x ≢ a → par x < n
  pub row_fits : (x : ℕ) → x < n → x ≢ a → row x < k
  pub ends : (x : ℕ) → x < n → x ≢ a → Ends u v (row x) x (par x)
  pub earlier : (x : ℕ) → x < n → x ≢ a → place (par x) < place x

-- the root alone
pub record RootAlone (a : ℕ) (par order place : List ℕ) : Type 0 where
  pub long : (length par ≡ 256) × (length order ≡ 256) × (length place ≡ 256)
  pub top : (at order 0 ≡ a) × (at place a ≡ 0) × (at par a ≡ a)
  pub rest : (x : ℕ) → x < 256 → x ≢ a → at place x ≡ 256

-- of two places one is taken and the other is not
abbrev pub OneTaken : ℕ → ℕ → Type 0
OneTaken p q = ((p ≡ 256) × (q ≢ 256)) ⊎ ((p ≢ 256) × (q ≡ 256))

-- both are taken, or none
abbrev pub Alike : ℕ → ℕ → Type 0
Alike p q = (p ≡ 256 → q ≡ 256) × (q ≡ 256 → p ≡ 256)

-- of each of k rows both ends are in the tree, or none
abbrev pub Closed : (ℕ → ℕ) → (ℕ → ℕ) → ℕ → List ℕ → Type 0
Closed u v k place = (r : ℕ) → r < k → Alike (at place (u r)) (at place (v r))

-- the first of k rows with exactly one end in the tree
pub record Leads (u v : ℕ → ℕ) (k : ℕ) (place : List ℕ) (r : ℕ) : Type 0 where
  pub within : r < k
  pub before : Closed u v r place
  pub here : OneTaken (at place (u r)) (at place (v r))

-- all n nodes hang in it, in an order with parents first
pub record HungAt (u v : ℕ → ℕ) (k n a : ℕ) (par order place : List ℕ) : Type 0 where
  pub rows : EndsApart u v k n
  pub few : n ≤ 256
  pub long : (length par ≡ 256) × (length order ≡ 256) × (length place ≡ 256)
  pub row : ℕ → ℕ
  pub tree : TreeAt u v k n a (at par) row (at place)
  pub top : (at order 0 ≡ a) × (at par a ≡ a)
  pub within : (i : ℕ) → i < n → at order i < n
  pub back : (i : ℕ) → i < n → at place (at order i) ≡ i
  pub here : (x : ℕ) → x < n → (at place x < n) × (at order (at place x) ≡ x)

-- of some rows a tree hung up at node 0
pub record SomeTree (n : ℕ) (par order : List ℕ) : Type 0 where
  pub u : ℕ → ℕ
  pub v : ℕ → ℕ
  pub k : ℕ
  pub place : List ℕ
  pub hung : HungAt u v k n 0 par order place

-- and the same hung up at node a
abbrev pub TurnedTo : ℕ → List ℕ → List ℕ → ℕ → List ℕ → List ℕ → List ℕ → Type 0
TurnedTo n par0 order0 a par order place =
    (u v : ℕ → ℕ) (k : ℕ) (place0 : List ℕ) → HungAt u v k n 0 par0 order0 place0
    → HungAt u v k n a par order place

-- all that the sweep asks of a tree: an order of the nodes with parents first
pub record InOrder (n : ℕ) (par order : List ℕ) : Type 0 where
  pub few : n ≤ 256
  pub some : 0 < n
  pub place : ℕ → ℕ
  pub top : at par (at order 0) ≡ at order 0
  pub fits : (x : ℕ) → x < n → at par x < n
  pub within : (i : ℕ) → i < n → at order i < n
  pub back : (i : ℕ) → i < n → place (at order i) ≡ i
  pub here : (x : ℕ) → x < n → (place x < n) × (at order (place x) ≡ x)
  pub earlier : (i : ℕ) → 0 < i → i < n → place (at par (at order i)) < i
