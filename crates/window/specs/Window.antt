-- The operation window: refusals 1 to 11, then 13, 30 and 31; then, of the pairs whose branch count lies between two
-- positive limits and whose weight between two sums, the one with the most branches, and among equals the earlier pair.
use Rattle.std.specs.Prelude.{ℕ, ◌-◌, ◌≤◌, ◌<◌, ◌≡◌, List, ℤ, length, ◌≤ℤ◌, Result, Ok, Err}
use Rattle.table.specs.Refuse.{Unless}
use Rattle.table.specs.Header.{nodes_of}
use Rattle.net.specs.Net.{first_end, second_end}
use Rattle.net.specs.Value.{Value}
use Rattle.marks.specs.Weighs.{weight_under}
use Rattle.tree.specs.Accept.{Begins}
use Rattle.pages.specs.Listing.{Entry, entry, Before}
use Rattle.pages.specs.Passes.{Passes}
use Rattle.tree.specs.declared.Refusal.{Refusal}
use Rattle.window.specs.declared.Most.{Most}

-- two limits of the branch count and two sums
pub record Window : Type 0 where
  pub fewest : ℕ
  pub most : ℕ
  pub floor : ℤ
  pub ceiling : ℤ

abbrev pub window : ℕ → ℕ → ℤ → ℤ → Window
window a b x y = record { fewest = a; most = b; floor = x; ceiling = y }

-- the limits are positive, and no lower one is above its upper one
pub record Proper (w : Window) : Type 0 where
  pub positive : 0 < w.fewest
  pub counts : w.fewest ≤ w.most
  pub sums : w.floor ≤ℤ w.ceiling

-- in the net of n nodes of table s the path from a to b has so many branches, which is its length where every branch is
-- 1 long, and this weight
abbrev pub BranchCount : List ℕ → List ℕ → ℕ → ℕ → ℕ → ℕ → ℤ → Type 0
BranchCount s marks n = Value (first_end s) (second_end s) (n - 1) (λ r. 1) (weight_under s marks)

abbrev pub InCounts : Window → ℕ → Type 0
InCounts w c = (w.fewest ≤ c) × (c ≤ w.most)

abbrev pub BetweenSums : Window → ℤ → Type 0
BetweenSums w x = (w.floor ≤ℤ x) × (x ≤ℤ w.ceiling)

-- the pairs in the window, each as an entry whose length is its branch count
abbrev pub InWindow : List ℕ → List ℕ → ℕ → Window → Entry → Type 0
InWindow s marks n w = Passes (BranchCount s marks n) (InCounts w) (BetweenSums w) n

-- of those with P none has more branches than e, and none that has as many is an earlier pair
pub record MostOf (P : Entry → Type 0) (e : Entry) : Type 0 where
  pub one : P e
  pub most : (f : Entry) → P f → f.length ≤ e.length
  pub earliest : (f : Entry) → P f → f.length ≡ e.length → ¬ Before f e

-- the run with the most branches: its nodes, branch count and weight; or why none
abbrev pub WindowAnswer : Type 0
WindowAnswer = Result Most Refusal

abbrev pub given_most : ℕ → ℕ → ℕ → ℤ → WindowAnswer
given_most a b c w = Ok (record { low = a; high = b; count = c; weight = w })

abbrev pub window_refusal : ℕ → ℕ → ℕ → WindowAnswer
window_refusal k r g = Err (record { number = k; row = r; ring = g })

abbrev pub GivesMost : (Entry → Type 0) → WindowAnswer → Type 0
GivesMost P (Ok o) = MostOf P (entry o.low o.high o.count o.weight)
GivesMost P (Err why) = ⊥

-- 13 and 30, then 31 where no pair is in the window, then the run with the most branches, of a net of n nodes
abbrev pub Picks : List ℕ → ℕ → List ℕ → Window → WindowAnswer → Type 0
Picks s n marks w =
    Unless WindowAnswer (window_refusal 13 0 0) (length marks ≡ n - 1)
    (Unless WindowAnswer (window_refusal 30 0 0) (Proper w)
    (Unless WindowAnswer (window_refusal 31 0 0) ((e : Entry) × InWindow s marks n w e)
    (GivesMost (InWindow s marks n w))))

abbrev pub WindowOf : List ℕ → List ℕ → Window → WindowAnswer → Type 0
WindowOf s marks w = Begins WindowAnswer window_refusal s (Picks s (nodes_of s) marks w)
