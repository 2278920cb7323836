-- The filling of a page, one first node at a time.
use Rattle.std.specs.Prelude.{ℕ, ◌+◌, ◌*◌, ◌≤◌, ◌<◌, ◌≡◌, List, [], ◌∷◌, ◌++◌, length, take, drop}
use Rattle.arrays.specs.At.{at}
use Rattle.table.specs.work.Diff.{Diff}
use Rattle.pages.specs.Listing.{Entry, Listing}
use Rattle.pages.specs.Bytes.{rows}
use Rattle.pages.specs.work.Lowered.{InSums}
use Rattle.pages.specs.declared.Sums.{Sums}
use Rattle.table.specs.work.Lift.{sum_lift, sum_end}

-- the second nodes of u that make a pair after the start (s, t), for s at most u: those from r on
pub record Starts (s t u n r : ℕ) : Type 0 where
  pub within : r ≤ n
  pub after : (v : ℕ) → v < n → r ≤ v → (u < v) × (u ≡ s → t < v)
  pub before : (v : ℕ) → v < n → u < v → (u ≡ s → t < v) → r ≤ v

-- a page that is filling: of the entries seen so far the first are written, as many as there is room for, and the
-- others counted
pub record Fills (old : List ℕ) (seen : List Entry) (given left : ℕ) (out : List ℕ) : Type 0 where
  pub room : 16 * given ≤ length old
  pub total : given + left ≡ length seen
  pub full : 0 < left → length old < 16 * given + 16
  pub written : out ≡ rows (take given seen) ++ drop (16 * given) old

-- one entry more: whatever the page had been filled with
pub record Added (e : Entry) (old : List ℕ) (given left : ℕ) (now : List ℕ) (given₁ left₁ : ℕ) : Type 0 where
  pub fills : (page : List ℕ) (seen : List Entry) → Fills page seen given left old
      → Fills page (seen ++ e ∷ []) given₁ left₁ now
  pub same : length now ≡ length old
  pub few : left₁ ≤ left + 1

-- the listing of X more
pub record GrownBy (X : Entry → Type 0) (old : List ℕ) (given left : ℕ) (now : List ℕ) (given₁ left₁ : ℕ) : Type 0 where
  pub found : List Entry
  pub all : Listing X found
  pub fills : (page : List ℕ) (seen : List Entry) → Fills page seen given left old
      → Fills page (seen ++ found) given₁ left₁ now
  pub same : length now ≡ length old

-- the entries of first node u whose second node is from `from` on and below v, with the lengths and lifted weights that
-- two lists hold, whose key, which a third holds, is within the test and whose lifted weight passes
pub record Here (Within : ℕ → Type 0) (key len wt : List ℕ) (u from : ℕ) (sums : Sums) (v : ℕ) (e : Entry) : Type
    0 where
  pub one : e.low ≡ u
  pub since : from ≤ e.high
  pub upto : e.high < v
  pub reach : e.length ≡ at len e.high
  pub load : Diff (at wt e.high) sum_lift e.weight
  pub short : Within (at key e.high)
  pub heavy : InSums sums (at wt e.high)

-- what the scan of one first node asks, and what it gives
pub record SecondsReady (out : List ℕ) (room : ℕ) (wt : List ℕ) (u from n left : ℕ) : Type 0 where
  pub low : 16 * room ≤ length out
  pub high : length out < 16 * room + 16
  pub nodes : n ≤ 4096
  pub within : from ≤ n
  pub light : (v : ℕ) → v < n → at wt v < sum_end
  pub few : left ≤ 4096 * u
  pub node : u < 4096

pub record Seconds (Within : ℕ → Type 0) (key len wt : List ℕ) (u from : ℕ) (sums : Sums) (v : ℕ) (old : List ℕ)
    (given left : ℕ) (now : List ℕ) (given₁ left₁ : ℕ) : Type 0 where
  pub grown : GrownBy (Here Within key len wt u from sums v) old given left now given₁ left₁
  pub few : left₁ + from ≤ left + v
