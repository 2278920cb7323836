-- The best pair as the code carries it: count 0 where there is none, else its nodes, its count and its lifted weight.
use Rattle.std.specs.Prelude.{ℕ, ◌≤◌, ◌<◌, ◌≡◌, ◌⊎◌, List, ℤ, ◌≤ℤ◌}
use Rattle.arrays.specs.At.{at}
use Rattle.table.specs.work.Diff.{Diff}
use Rattle.table.specs.work.Lift.{sum_lift}
use Rattle.pages.specs.Listing.{Entry}
use Rattle.pages.specs.Passes.{Passes}
use Rattle.pages.specs.declared.Sums.{Sums}
use Rattle.pages.specs.work.Lowered.{Weighs}
use Rattle.paths.specs.work.Ground.{Ground}
use Rattle.ground.specs.work.Grounded.{ValueIn}
use Rattle.window.specs.declared.best.Found.{Found}
use Rattle.window.specs.declared.best.CountLimits.{CountLimits}
use Rattle.window.specs.Window.{MostOf}

-- b carries the entry e
pub record CarriesPair (b : Found) (e : Entry) : Type 0 where
  pub low : b.low ≡ e.low
  pub high : b.high ≡ e.high
  pub count : b.count ≡ e.length
  pub weight : Diff b.weight sum_lift e.weight

-- b is the best of those with P, or none where there is none
pub record BestOf (P : Entry → Type 0) (b : Found) : Type 0 where
  pub beats : (f : Entry) → P f → f.length ≤ b.count
  pub comes : (b.count ≡ 0) ⊎ ((e : Entry) × CarriesPair b e × MostOf P e)

-- b₁ carries the pair that b carries
abbrev pub SamePair : Found → Found → Type 0
SamePair b b₁ = (b₁.low ≡ b.low) × (b₁.high ≡ b.high) × (b₁.count ≡ b.count) × (b₁.weight ≡ b.weight)

-- the pair u, v, of count y and lifted weight x, beside b: it takes its place where it has more branches
pub record BetterOf (b : Found) (u v y x : ℕ) (r : Found) : Type 0 where
  pub more : b.count < y → r ≡ record { low = u; high = v; count = y; weight = x; hit = 1 }
  pub less : y ≤ b.count
      → r ≡ record { low = b.low; high = b.high; count = b.count; weight = b.weight; hit = 1 }

-- b₁ is b's pair, or the best of those with P where that has more branches; it beats all of them, and is hit where one
-- of them has its count
pub record Bettered (P : Entry → Type 0) (b b₁ : Found) : Type 0 where
  pub beats : (f : Entry) → P f → f.length ≤ b₁.count
  pub kept : b.count ≤ b₁.count
  pub comes : SamePair b b₁ ⊎ ((e : Entry) × CarriesPair b₁ e × MostOf P e × (b.count < e.length))
  pub hits : (f : Entry) → P f → f.length ≡ b₁.count → b₁.hit ≡ 1

-- what a scan stands on: some net whose walk and branches these are, and two sums between which the weights are that
-- pass lifted
pub record Stand (n : ℕ) (parent order place bl bw : List ℕ) (sums : Sums) : Type 0 where
  pub ground : Ground n parent order place bl bw
  pub floor : ℤ
  pub ceiling : ℤ
  pub weighs : Weighs (λ w. (floor ≤ℤ w) × (w ≤ℤ ceiling)) sums

-- the counts that pass
abbrev pub InLimits : CountLimits → ℕ → Type 0
InLimits c k = (c.fewest ≤ k) × (k ≤ c.most)

-- the pairs of the net whose length and weight pass
abbrev pub Passing : {n : ℕ} {parent order place bl bw : List ℕ} {sums : Sums} → CountLimits
    → Stand n parent order place bl bw sums → Entry → Type 0
Passing {n} counts g =
    Passes (ValueIn g.ground) (InLimits counts) (λ w. (g.floor ≤ℤ w) × (w ≤ℤ g.ceiling)) n

-- those whose first node is `first` or a later one
abbrev pub PassingFrom : {n : ℕ} {parent order place bl bw : List ℕ} {sums : Sums} → ℕ → CountLimits
    → Stand n parent order place bl bw sums → Entry → Type 0
PassingFrom first counts g e = Passing counts g e × (first ≤ e.low)

-- b is the best of these, and each first node that has a pair of its count is hit
pub record Best {n : ℕ} {parent order place bl bw : List ℕ} {sums : Sums} (first : ℕ) (counts : CountLimits)
    (g : Stand n parent order place bl bw sums) (hits : List ℕ) (b : Found) : Type 0 where
  pub is : BestOf (PassingFrom first counts g) b
  pub hit : (e : Entry) → PassingFrom first counts g e → e.length ≡ b.count → at hits e.low ≡ 1
