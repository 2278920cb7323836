-- Children, leaves, spines and heads, as document 01 has them. The root is node 0.
use Rattle.std.specs.Prelude.{ℕ, ◌≤◌, ◌<◌, ◌≡◌, List, ◌∷◌}
use Rattle.arrays.specs.Members.{In}
use Rattle.net.specs.Graph.{Ends}
use Rattle.net.specs.Path.{Path}
use Rattle.net.specs.Count.{Count}

-- c is a child of p in a net of k rows and n nodes: the simple path from node 0 leads to p, and one row on to a node
-- that it has not met
pub record ChildOf (u v : ℕ → ℕ) (k n p c : ℕ) : Type 0 where
  pub fits : c < n
  pub rows : List ℕ
  pub path : Path u v k 0 rows p
  pub row : ℕ
  pub low : row < k
  pub ends : Ends u v row p c
  pub new : ¬ In c (0 ∷ path.0)

-- all else is said by children alone: C p c is that c is a child of p, and the nodes are those below n
module _ (C : ℕ → ℕ → Type 0) (n : ℕ) where
  -- a node, its children, their children, and so on
  pub data Under (t : ℕ) : ℕ → Type 0 where
    here : Under t t
    step : {p c : ℕ} → C p c → Under t p → Under t c

  pub record Leaf (x : ℕ) : Type 0 where
    pub fits : x < n
    pub none : (c : ℕ) → ¬ C x c

  -- a leaf below t; a leaf counts itself
  pub record LeafUnder (t x : ℕ) : Type 0 where
    pub leaf : Leaf x
    pub under : Under t x

  -- k leaves are below t
  abbrev pub Leaves : ℕ → ℕ → Type 0
  Leaves t k = Count (LeafUnder t) k

  -- c is the child of p with most leaves below it; among equals the lowest node number
  pub record Main (p c : ℕ) : Type 0 where
    pub child : C p c
    pub most : (d a b : ℕ) → C p d → Leaves c a → Leaves d b → (b ≤ a) × (b ≡ a → c ≤ d)

  -- h is the head of x: a spine goes from its head down, each time to the main child, and a node that is no one's main
  -- child heads a spine of its own
  pub data Head : ℕ → ℕ → Type 0 where
    top : {x : ℕ} → x < n → ((p : ℕ) → ¬ Main p x) → Head x x
    down : {h p x : ℕ} → Main p x → Head h p → Head h x
