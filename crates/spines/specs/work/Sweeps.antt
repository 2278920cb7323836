-- The sweeps: counts below each node, of leaves or of others, main children, heads. What a later sweep needs of the
-- counts is said of the main children, so that the counts' array can be overwritten.
use Rattle.std.specs.Prelude.{ℕ, ◌≤◌, ◌<◌, ◌≡◌, ◌≢◌, List, length}
use Rattle.arrays.specs.At.{at}
use Rattle.arrays.specs.Members.{In}
use Rattle.net.specs.Count.{Count}
use Rattle.net.specs.work.Rooted.{Above}
use Rattle.spines.specs.Spine.{Leaves, Main}
use Rattle.spines.specs.work.Parents.{Child}

-- of the nodes in a list L, those below t, itself among them
pub record Among (L : List ℕ) (par : ℕ → ℕ) (t x : ℕ) : Type 0 where
  pub is : In x L
  pub below : Above par t x

module _ (L : List ℕ) (n : ℕ) (parent : List ℕ) where
  -- a step makes, of how many of L are strictly below a node, how many are below it
  pub record Owns (pre : ℕ → Type 0) (post : ℕ → ℕ → Type 0) : Type 0 where
    pub fits : (x : ℕ) → In x L → x < n
    pub can : (x : ℕ) → x ≤ n → pre x
    pub own : (v x w : ℕ) → v < n → Count (λ y. Among L (at parent) v y × (y ≢ v)) x → post x w
        → Count (Among L (at parent) v) w

  -- how many of L are below each node
  pub record Sums (sum : List ℕ) : Type 0 where
    pub long : length sum ≡ 4096
    pub each : (t : ℕ) → t < n → Count (Among L (at parent) t) (at sum t)

-- how many leaves are below each node
pub record LeavesAll (n : ℕ) (parent leaves : List ℕ) : Type 0 where
  pub long : length leaves ≡ 4096
  pub each : (t : ℕ) → t < n → Leaves (Child n (at parent)) n t (at leaves t)

-- each of n nodes but node 0 has one of them for a parent
pub record Parented (n : ℕ) (parent : List ℕ) : Type 0 where
  pub some : (0 < n) × (n ≤ 4096)
  pub fits : (x : ℕ) → x < n → x ≢ 0 → at parent x < n

-- q is the main child of p, or 4096 where p has none
pub record MainOrNone (n : ℕ) (par : ℕ → ℕ) (p q : ℕ) : Type 0 where
  pub is : q ≢ 4096 → Main (Child n par) n p q
  pub only : (c : ℕ) → Main (Child n par) n p c → q ≡ c

-- each node's main child
pub record MainsAll (n : ℕ) (parent main : List ℕ) : Type 0 where
  pub long : length main ≡ 4096
  pub each : (p : ℕ) → p < n → MainOrNone n (at parent) p (at main p)

-- c takes the place of q where it is better
pub record MainTaken (leaves : List ℕ) (q c r : ℕ) : Type 0 where
  pub first : q ≡ 4096 → r ≡ c
  pub more : q ≢ 4096 → at leaves q < at leaves c → r ≡ c
  pub less : q ≢ 4096 → at leaves c ≤ at leaves q → r ≡ q
  pub small : r ≤ 4096

-- v's head: its parent's where v is the parent's main child, and else its own
pub record Follows (v q h r : ℕ) : Type 0 where
  pub same : q ≡ v → r ≡ h
  pub own : q ≢ v → r ≡ v
