-- A net hung up at node 0: each other node has a parent, and the row that joins it to the parent.
use Rattle.std.specs.Prelude.{ℕ, ◌<◌, ◌≡◌, ◌≢◌}
use Rattle.net.specs.Graph.{First, Ends, Joined}
use Rattle.net.specs.work.Forest.{Forest}

-- t is x, or on the climb from x to node 0
pub data Above (par : ℕ → ℕ) (t : ℕ) : ℕ → Type 0 where
  self : Above par t t
  up : {x y : ℕ} → x ≢ 0 → par x ≡ y → Above par t y → Above par t x

-- z is on the climb from x, strictly below a
pub record Passed (par : ℕ → ℕ) (a x z : ℕ) : Type 0 where
  pub above : Above par z x
  pub below : Above par a z
  pub not : z ≢ a

-- k rows over n nodes, all joined and with no ring; the parent's place is earlier than the node's
pub record Rooted (u v : ℕ → ℕ) (k n : ℕ) (par row place : ℕ → ℕ) : Type 0 where
  pub forest : Forest u v k
  pub fits : (r : ℕ) → r < k → (u r < n) × (v r < n)
  pub all : (a b : ℕ) → a < n → b < n → Joined u v (First k) a b
  pub row_fits : (x : ℕ) → x < n → x ≢ 0 → row x < k
  pub par_fits : (x : ℕ) → x < n → x ≢ 0 → par x < n
  pub ends : (x : ℕ) → x < n → x ≢ 0 → Ends u v (row x) x (par x)
  pub earlier : (x : ℕ) → x < n → x ≢ 0 → place (par x) < place x
