-- A chunk: up to 8,192 arcs of a text, copied into an array and found again by their nodes.
use Rattle.std.specs.Prelude.{
  ℕ,
  ◌+◌,
  ◌-◌,
  ◌*◌,
  ◌/◌,
  ◌%◌,
  ◌≤◌,
  ◌<◌,
  ◌≡◌,
  Bool,
  true,
  false,
  ◌≢◌,
  List,
  length,
  drop,
  Option,
  Some,
  None,
}
use Rattle.arrays.specs.At.{at}
use Rattle.roads.specs.Text.{Arc, Lines}
use Rattle.arcs.specs.Arcs.{Arcs, arcs_of}
use Rattle.roads.specs.declared.line.Kind.{Kind}

-- an arc's two nodes as one number, and its opposite's
unfoldable pub arc_key : Arcs → ℕ → ℕ
arc_key A i = 65536 * A.from i + A.to i

unfoldable pub back_key : Arcs → ℕ → ℕ
back_key A i = 65536 * A.to i + A.from i

-- such a number turned round: the opposite's
abbrev pub turned_key : ℕ → ℕ
turned_key x = 65536 * (x % 65536) + x / 65536

-- an arc of a chunk is one number of 64 bits: its key above, the 32 bits of its number below
abbrev pub key_at : List ℕ → ℕ → ℕ
key_at chunk i = at chunk i / 4294967296

abbrev pub number_at : List ℕ → ℕ → ℕ
number_at chunk i = at chunk i % 4294967296

unfoldable pub bucket : ℕ → ℕ
bucket x = x % 8179

-- nodes are 1 to 65,535
pub record NodesFit (A : Arcs) : Type 0 where
  pub from_low : (j : ℕ) → j < A.count → 1 ≤ A.from j
  pub from_high : (j : ℕ) → j < A.count → A.from j < 65536
  pub to_low : (j : ℕ) → j < A.count → 1 ≤ A.to j
  pub to_high : (j : ℕ) → j < A.count → A.to j < 65536

-- from place `at` on a text of this kind has the lines of these arcs
abbrev pub Tail : Kind → List ℕ → ℕ → List Arc → Type 0
Tail kind s at all = Lines kind.top kind.low kind.nodes (drop at s) all

-- from place `at` on a text has the lines of m arcs, which are all, with numbers from −low to top, between nodes from 1
-- to n
pub record ArcsFrom (top low n : ℕ) (s : List ℕ) (at m : ℕ) (all : List Arc) : Type 0 where
  pub says : Lines top low n (drop at s) all
  pub count : m ≡ length all

-- the same of a kind
abbrev pub TailOf : Kind → List ℕ → ℕ → ℕ → List Arc → Type 0
TailOf kind = ArcsFrom kind.top kind.low kind.nodes

-- the k arcs from start on stand in a chunk
pub record ChunkOf (A : Arcs) (start k : ℕ) (chunk : List ℕ) : Type 0 where
  pub few : k ≤ 8192
  pub within : start + k ≤ A.count
  pub long : length chunk ≡ 8192
  pub fits : (i : ℕ) → i < k → A.to (start + i) < 65536
  pub key_is : (i : ℕ) → i < k → key_at chunk i ≡ arc_key A (start + i)
  pub number_is : (i : ℕ) → i < k → number_at chunk i ≡ A.number (start + i)

-- a text's arcs, all of them in one chunk
pub record WholeIn (A : Arcs) (m : ℕ) (chunk : List ℕ) : Type 0 where
  pub fit : NodesFit A
  pub all : m ≡ A.count
  pub stands : ChunkOf A 0 m chunk

-- k arcs were copied from place `at` on; from place `next` on stand the others
pub record Loaded (kind : Kind) (s : List ℕ) (at k next : ℕ) (chunk : List ℕ) : Type 0 where
  pub on : (all : List Arc) (start : ℕ) → Tail kind s at (drop start all) → start + k ≤ length all
      → Tail kind s next (drop (start + k) all)
  pub stands : (all : List Arc) (start : ℕ) → Tail kind s at (drop start all) → start + k ≤ length all
      → ChunkOf (arcs_of all) start k chunk

-- x is one more than the greatest h below k with q h ≡ v, or 0 where there is none
pub record LastAt (q : ℕ → ℕ) (v k x : ℕ) : Type 0 where
  pub below : x ≤ k
  pub hit : 0 < x → q (x - 1) ≡ v
  pub none : (h : ℕ) → x ≤ h → h < k → q h ≢ v

-- the place that a link leads to, if any
abbrev pub link : Option ℕ → ℕ
link None = 0
link (Some h) = h + 1

-- the places below k are chained by the buckets of their keys
pub record Buckets (chunk : List ℕ) (k : ℕ) (first next : List ℕ) : Type 0 where
  pub few : k ≤ 8192
  pub long_first : length first ≡ 8192
  pub long_next : length next ≡ 8192
  pub firsts : (v : ℕ) → v < 8192 → LastAt (λ i. bucket (key_at chunk i)) v k (at first v)
  pub nexts : (h : ℕ) → h < k → LastAt (λ i. bucket (key_at chunk i)) (bucket (key_at chunk h)) h (at next h)

-- a chunk that can be looked up in
pub record Searchable (k : ℕ) (chunk first next : List ℕ) : Type 0 where
  pub long : length chunk ≡ 8192
  pub buckets : Buckets chunk k first next

-- going down a chain for x: what is above i is not x, and i is in x's chain
pub record Downward (chunk : List ℕ) (x k i : ℕ) : Type 0 where
  pub below : i ≤ k
  pub same : 0 < i → bucket (key_at chunk (i - 1)) ≡ bucket x
  pub none : (h : ℕ) → i ≤ h → h < k → key_at chunk h ≢ x

-- r says whether P
pub record Answers (P : Type 0) (r : Bool) : Type 0 where
  pub holds : r ≡ true → P
  pub fails : r ≡ false → P → ⊥
