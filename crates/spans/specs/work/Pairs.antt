-- Pairs of places across two spans, and the best of them.
use Rattle.std.specs.Prelude.{ℕ, ◌+◌, ◌^◌, ◌≤◌, ◌<◌, min, max, ◌≡◌, ◌⊎◌, List}
use Rattle.arrays.specs.At.{at}
use Rattle.spans.specs.work.Spans.{By, Sorted, Nodes}
use Rattle.spans.specs.declared.across.Best.{Best}

abbrev pub best4 : ℕ → ℕ → ℕ → ℕ → Best
best4 w l a b = record { weight = w; length = l; low = a; high = b }

-- y is at least as good as x: greater weight; of equal weight the shorter; then the earlier pair
pub record Le (x y : Best) : Type 0 where
  pub weight : x.weight ≤ y.weight
  pub length : y.weight ≤ x.weight → y.length ≤ x.length
  pub low : y.weight ≤ x.weight → x.length ≤ y.length → y.low ≤ x.low
  pub high : y.weight ≤ x.weight → x.length ≤ y.length → x.low ≤ y.low → y.high ≤ x.high

-- a sum of two such numbers fits 64 bits
pub record Small (d : List ℕ) : Type 0 where
  pub small : (x : ℕ) → x < 4096 → at d x < 2 ^ 62

-- lengths and weights of the upper place (ku, wu) and of the lower (d, w)
pub record Given (ku wu d w : List ℕ) : Type 0 where
  pub up_key : Small ku
  pub up_weight : Small wu
  pub down_key : Small d
  pub down_weight : Small w

-- the pair of x and y: weight and length are sums, the lower name first
abbrev pub pair_across : List ℕ → List ℕ → List ℕ → List ℕ → List ℕ → ℕ → ℕ → Best
pair_across name ku wu d w x y =
    best4 (at wu x + at w y) (at ku x + at d y) (min (at name x) (at name y)) (max (at name x) (at name y))

-- what joining asks: up's span from s to m is sorted by ku, down's from m to e by d
pub record Joinable (ku wu d w up down : List ℕ) (s m e : ℕ) : Type 0 where
  pub given : Given ku wu d w
  pub left : s ≤ m
  pub right : m ≤ e
  pub within : e ≤ 4096
  pub up_nodes : Nodes up s m
  pub down_nodes : Nodes down m e
  pub up_sorted : Sorted (By ku) up s m
  pub down_sorted : Sorted (By d) down m e

-- `new` is a pair across, within the length test
pub record Across (name ku wu d w up down : List ℕ) (s m e : ℕ) (Within : ℕ → Type 0) (new : Best) : Type 0 where
  pub i : ℕ
  pub j : ℕ
  pub i_low : s ≤ i
  pub i_high : i < m
  pub j_low : m ≤ j
  pub j_high : j < e
  pub short : Within (at ku (at up i) + at d (at down j))
  pub is : new ≡ pair_across name ku wu d w (at up i) (at down j)

-- the new best keeps the old, beats every pair across within the length test, and is one of these
pub record JoinedBest (name ku wu d w up down : List ℕ) (s m e : ℕ) (Within : ℕ → Type 0) (old new : Best) : Type
    0 where
  pub keeps : Le old new
  pub beats : (i j : ℕ) → s ≤ i → i < m → m ≤ j → j < e → Within (at ku (at up i) + at d (at down j))
      → Le (pair_across name ku wu d w (at up i) (at down j)) new
  pub comes : (new ≡ old) ⊎ Across name ku wu d w up down s m e Within new
