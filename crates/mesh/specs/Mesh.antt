-- What is asked of a clock mesh: row r joins the nodes u r and v r, and there are k rows and n nodes.
use Rattle.std.specs.Prelude.{ℕ, ◌≤◌, ◌<◌, ◌≡◌, ◌⊎◌, List, length}
use Rattle.arrays.specs.Members.{In}
use Rattle.table.specs.Refuse.{Unless}
use Rattle.net.specs.Graph.{First, Ends, Joined, Ring}
use Rattle.net.specs.Path.{Path}

module _ (u v : ℕ → ℕ) where
  -- an earlier row joins the same two nodes, in either order
  abbrev pub RepeatsPair : ℕ → Type 0
  RepeatsPair r = (i : ℕ) × (i < r) × Ends u v i (u r) (v r)

  -- a row's own number: 36 where it repeats a pair, 0 for a good row
  abbrev pub PairNumber : ℕ → ℕ → Type 0
  PairNumber r = Unless ℕ 36 (¬ RepeatsPair r) (λ num. num ≡ 0)

  -- each of n nodes is joined to node 0, else 37
  abbrev pub Connected : ℕ → ℕ → Type 0
  Connected k n = (x : ℕ) → x < n → Joined u v (First k) 0 x

  -- each row lies on at most one ring, else 38: two rings that share a row have the same rows
  abbrev pub OneRing : ℕ → Type 0
  OneRing k = (r : ℕ) (p q : Ring u v k) → In r p.rs → In r q.rs → (s : ℕ) → In s p.rs → In s q.rs

  -- a simple path from x to y, along l of the rows
  abbrev pub PathWith : ℕ → ℕ → ℕ → ℕ → Type 0
  PathWith k x y l = (rs : List ℕ) × Path u v k x rs y × (length rs ≡ l)

  -- l is the greatest number of rows on any simple path; of the pairs of nodes that are the ends of one with so many,
  -- (a, b) is the first: a as small as can be, then b
  pub record Longest (k n l a b : ℕ) : Type 0 where
    pub within : a < n
    pub some : PathWith k a b l
    pub most : (x y m : ℕ) → x < n → PathWith k x y m → m ≤ l
    pub first : (x y : ℕ) → x < n → PathWith k x y l → (a < x) ⊎ ((a ≡ x) × (b ≤ y))
