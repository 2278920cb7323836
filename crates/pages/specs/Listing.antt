-- Entries in pair order, and the listing: every entry that qualifies, each once, in order.
use Rattle.std.specs.Prelude.{ℕ, ◌<◌, ◌≡◌, List, [], ◌∷◌, ℤ}
use Rattle.arrays.specs.Members.{In}

-- a pair of nodes, lower first, with the length and the weight of the path between them
pub record Entry : Type 0 where
  pub low : ℕ
  pub high : ℕ
  pub length : ℕ
  pub weight : ℤ

abbrev pub entry : ℕ → ℕ → ℕ → ℤ → Entry
entry a b l w = record { low = a; high = b; length = l; weight = w }

-- the pair of e comes strictly after the pair (s, t): by first node, then second
pub data After (s t : ℕ) (e : Entry) : Type 0 where
  first : s < e.low → After s t e
  second : s ≡ e.low → t < e.high → After s t e

abbrev pub Before : Entry → Entry → Type 0
Before x y = After x.low x.high y

-- each entry comes before all that follow it
pub data Rising : List Entry → Type 0 where
  none : Rising []
  more : {x : Entry} {l : List Entry} → ((y : Entry) → In y l → Before x y) → Rising l → Rising (x ∷ l)

-- l is the rising list of exactly the entries that qualify
pub record Listing (P : Entry → Type 0) (l : List Entry) : Type 0 where
  pub rising : Rising l
  pub sound : (e : Entry) → In e l → P e
  pub complete : (e : Entry) → P e → In e l
