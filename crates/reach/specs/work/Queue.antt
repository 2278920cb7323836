-- What the queue of the walk keeps, and what it comes to.
use Rattle.std.specs.Prelude.{ℕ, ◌+◌, ◌*◌, ◌≤◌, ◌<◌, ◌≡◌, ◌≢◌, List, length}
use Rattle.arrays.specs.At.{at}
use Rattle.arrays.specs.Members.{In}
use Rattle.net.specs.Net.{first_end, second_end}
use Rattle.reach.specs.work.Half.{from}
use Rattle.reach.specs.work.Walked.{Reached, High, Falls}
use Rattle.net.specs.work.Rows.{Readable}
use Rattle.reach.specs.work.Chains.{Chained}
use Rattle.reach.specs.work.Placing.{Placed}

-- m nodes are in the order, which begins with the node start
pub record Queue (start : ℕ) (us vs : ℕ → ℕ) (rows m : ℕ) (parent half order place : List ℕ) : Type 0 where
  pub long : (length parent ≡ 4096) × (length half ≡ 4096) × (length order ≡ 4096) × (length place ≡ 4096)
  pub free : (l : List ℕ) × (length l + m ≡ 4096) × ((v : ℕ) → v < 4096 → at parent v ≡ 4096 → In v l)
  pub some : 0 < m
  pub root : at order 0 ≡ start
  pub top : (at parent start ≡ start) × (at half start ≡ 0)
  pub within : (i : ℕ) → i < m → at order i < 4096
  pub reached : (i : ℕ) → i < m → at parent (at order i) < 4096
  pub placed : (v : ℕ) → v < 4096 → at parent v ≢ 4096 → (at place v < m) × (at order (at place v) ≡ v)
  pub back : (i : ℕ) → i < m → at place (at order i) ≡ i
  pub child : (i : ℕ) → 0 < i → i < m → Reached us vs rows parent half (at order i)
  pub above : (i : ℕ) → 0 < i → i < m
      → (High parent order place i < i) × (at order (High parent order place i) ≡ at parent (at order i))
  pub falls : Falls m parent half order place
  pub blank : (v : ℕ) → v < 4096 → at parent v ≡ 4096 → (at half v ≡ 0) × (at place v ≡ 0)
  pub rest : (i : ℕ) → m ≤ i → i < 4096 → at order i ≡ 0

-- the places below head are done
pub record Outer (start : ℕ) (us vs : ℕ → ℕ) (rows head m : ℕ) (parent half order place : List ℕ) : Type 0 where
  pub queue : Queue start us vs rows m parent half order place
  pub in_queue : head ≤ m
  pub latest : (i : ℕ) → 0 < i → i < m → High parent order place i < head
  pub done : (i h : ℕ) → i < head → h < 2 * rows → from us vs h ≡ at order i → at parent (from vs us h) ≢ 4096

-- what a visit of the node at the place head asks
pub record Visits (start : ℕ) (s : List ℕ) (rows : ℕ) (first next : List ℕ) (head tail : ℕ)
    (parent half order : List ℕ) : Type 0 where
  pub readable : Readable s rows
  pub chains : Chained (first_end s) (second_end s) rows (2 * rows) first next
  pub ahead : head < tail
  pub outer : Placed (Outer start (first_end s) (second_end s) rows head tail parent half order)
