-- The rows of a net: row r joins the nodes u r and v r. What a walk and a ring are.
use Rattle.std.specs.Prelude.{ℕ, ◌≤◌, ◌<◌, ◌≡◌, ◌⊎◌, List, [], ◌∷◌, length}
use Rattle.arrays.specs.Members.{Distinct}

-- the rows before row k
abbrev pub First : ℕ → ℕ → Type 0
First k s = s < k

module _ (u v : ℕ → ℕ) where
  -- a and c are the two ends of row r, either way round
  abbrev pub Ends : ℕ → ℕ → ℕ → Type 0
  Ends r a c = ((u r ≡ a) × (v r ≡ c)) ⊎ ((u r ≡ c) × (v r ≡ a))

  -- a walk from a to b along the rows rs, each of P, that meets the nodes ns after a
  pub data Walk (P : ℕ → Type 0) : ℕ → List ℕ → List ℕ → ℕ → Type 0 where
    stop : {a : ℕ} → Walk P a [] [] a
    go : {r a c b : ℕ} {rs ns : List ℕ} → P r → Ends r a c → Walk P c rs ns b → Walk P a (r ∷ rs) (c ∷ ns) b

  -- some walk joins them
  abbrev pub Joined : (ℕ → Type 0) → ℕ → ℕ → Type 0
  Joined P a b = (rs : List ℕ) × (ns : List ℕ) × Walk P a rs ns b

  -- earlier rows already join the ends of row r
  abbrev pub RingAt : ℕ → Type 0
  RingAt r = Joined (First r) (u r) (v r)

  -- a closed walk along two or more different rows of the first k that meets no node twice before it closes
  pub record Ring (k : ℕ) : Type 0 where
    pub start : ℕ
    pub rs : List ℕ
    pub ns : List ℕ
    pub closed : Walk (First k) start rs ns start
    pub rows_once : Distinct rs
    pub nodes_once : Distinct ns
    pub two : 2 ≤ length rs
