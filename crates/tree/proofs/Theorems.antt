-- The theorems of this crate, each by the law that proves it. A net of n nodes has the rows below n − 1; row r joins
-- `first_end s r` and `second_end s r`.
use Prim.Native.Nat.{ℕ, ◌+◌, ◌-◌, ◌≤◌, ◌<◌}
use mathlib.Core.Path.{◌≡◌, ap}
use mathlib.Core.Logic.{◌≢◌, ◌↔◌}
use mathlib.Core.List.{List, ◌∷◌}
use lib.ListN.{length}
use Rattle.arrays.specs.At.{at}
use Rattle.table.specs.Header.{nodes_of}
use Rattle.table.specs.Refuse.{Unless}
use Rattle.table.proofs.Accepted.{GoodTable}
use Rattle.arrays.specs.Members.{In, Distinct}
use Rattle.net.specs.Graph.{First, Ends, Walk, Ring}
use Rattle.net.specs.Path.{Path}
use Rattle.net.specs.Net.{first_end, second_end, Whole}
use Rattle.net.specs.work.Net.{Net}
use Rattle.tree.specs.Accept.{acceptance_refusal, Begins, Accepts, Acceptance}
use Rattle.tree.specs.Groups.{Groups}
use Rattle.tree.specs.work.Why.{why_of}
use Rattle.net.specs.work.Rooted.{Above}
use Rattle.reach.specs.work.Walked.{Walked}
use Rattle.net.proofs.RingExactly.{forest_iff}
use Rattle.net.proofs.OnePath.{unique}
use Rattle.tree.proofs.Begins.{by_beginning}
use Rattle.tree.proofs.Begins as begins
use Rattle.tree.proofs.Eleven.{ring_refused, refused_ring}
use Rattle.tree.proofs.Eleven as eleven
use Rattle.tree.proofs.Twelve as twelve
use Rattle.reach.proofs.NetWalk.{net_simple, climb_path}

-- Demand 2. A table with good header, size and rows is refused by 11 exactly if a ring is in it.
pub ring_exactly : (s : List ℕ) → GoodTable s
    → ((r : ℕ) × (g : ℕ) × Accepts s (acceptance_refusal 11 r g)) ↔ Ring (first_end s) (second_end s) (nodes_of s - 1)
ring_exactly s g = (refused_ring s, ring_refused s g)

-- Req 03. Where it is, the row named closes a ring with rows before it, and the number given is how many rows that ring
-- has:
pub ring_counted : (s : List ℕ) (r g : ℕ) → Accepts s (acceptance_refusal 11 r g)
    → (o : Ring (first_end s) (second_end s) (r + 1)) × In r o.rs × (length o.rs ≡ g)
ring_counted = eleven.ring_counted

-- every ring of rows up to that one has as many,
pub ring_one : (s : List ℕ) (r g : ℕ) → Accepts s (acceptance_refusal 11 r g)
    → (o : Ring (first_end s) (second_end s) (r + 1)) → length o.rs ≡ g
ring_one = eleven.ring_one

-- two or more, and no more than there are rows up to that one,
pub ring_bounds : (s : List ℕ) (r g : ℕ) → Accepts s (acceptance_refusal 11 r g) → (2 ≤ g) × (g ≤ r + 1)
ring_bounds = eleven.ring_bounds

-- and two exactly if an earlier row has the same two ends, either way round.
pub ring_repeat : (s : List ℕ) (r g : ℕ) → Accepts s (acceptance_refusal 11 r g)
    → (g ≡ 2) ↔ ((q : ℕ) × (q < r) × Ends (first_end s) (second_end s) q (first_end s r) (second_end s r))
ring_repeat = eleven.ring_repeat

-- No other refusal tells of a ring;
pub ring_alone : (s : List ℕ) (k r g : ℕ) → Accepts s (acceptance_refusal k r g) → k ≢ 11 → g ≡ 0
ring_alone s k r g p =
    by_beginning (λ o. (why_of o).number ≢ 11 → (why_of o).ring ≡ 0) acceptance_refusal s (λ k r g t. t.alone)
    (λ o e _. ap (λ (x : Acceptance). (why_of x).ring) e) p

-- and what acceptance refuses, every operation that begins with it refuses by the same number, row and ring.
pub refused_alike : {A : Type 0} (refuse : ℕ → ℕ → ℕ → A) (s : List ℕ) {rest : A → Type 0} {x : A} (k r g : ℕ)
    → Accepts s (acceptance_refusal k r g) → Begins A refuse s rest x → x ≡ refuse k r g
refused_alike = begins.refused_alike

-- Req 10. Of a table with good header, size and rows: the first k rows, where no ring is in them, leave the n nodes in
-- n − k groups,
pub groups_left : (s : List ℕ) → GoodTable s → (k : ℕ) → k ≤ nodes_of s - 1 → ¬ Ring (first_end s) (second_end s) k
    → Groups (first_end s) (second_end s) k (nodes_of s) (nodes_of s - k)
groups_left = twelve.groups_left

-- so n − 1 rows without a ring join every node to node 0.
pub all_joined : (s : List ℕ) → GoodTable s → ¬ Ring (first_end s) (second_end s) (nodes_of s - 1) → Whole s
    (nodes_of s)
all_joined = twelve.all_joined

-- Therefore no answer moved when 12 went: a promise that begins with 1 to 11, with 12 tested before what follows, as it
-- was, allows the same outcomes.
pub as_with_twelve : {A : Type 0} (refuse : ℕ → ℕ → ℕ → A) (s : List ℕ) {rest : A → Type 0} {x : A}
    → Begins A refuse s rest x ↔ Begins A refuse s (Unless A (refuse 12 0 0) (Whole s (nodes_of s)) rest) x
as_with_twelve = twelve.as_with_twelve

-- And 12 is given nowhere: not by acceptance,
pub never_twelve : (s : List ℕ) (r g : ℕ) → Accepts s (acceptance_refusal 12 r g) → ⊥
never_twelve = twelve.never_twelve

-- nor, where what follows 1 to 11 does not give it, by any operation that begins with them.
pub twelve_unused : {A : Type 0} (number : A → ℕ) (refuse : ℕ → ℕ → ℕ → A) → ((k r g : ℕ) → number (refuse k r g) ≡ k)
    → (s : List ℕ) {rest : A → Type 0} → ((x : A) → rest x → number x ≢ 12) → (x : A) → Begins A refuse s rest x
    → number x ≢ 12
twelve_unused = twelve.unused

-- An accepted net has no ring.
pub ringless : {s : List ℕ} {n : ℕ} → Net s n → ¬ Ring (first_end s) (second_end s) (n - 1)
ringless {s} t = (forest_iff (first_end s) (second_end s) t.apart).0 t.forest

-- In an accepted net each two nodes have a simple path,
pub path_there : {s : List ℕ} {n a b : ℕ} → Net s n → a < n → b < n
    → (rs : List ℕ) × Path (first_end s) (second_end s) (n - 1) a rs b
path_there t a b = let p = net_simple t a b in (p.0, (p.1, p.2, p.3))

-- and one only: the same rows and the same nodes.
pub path_one : {s : List ℕ} {n a b : ℕ} {rs ns rs' ns' : List ℕ} → Net s n
    → Walk (first_end s) (second_end s) (First (n - 1)) a rs ns b → Distinct (a ∷ ns)
    → Walk (first_end s) (second_end s) (First (n - 1)) a rs' ns' b → Distinct (a ∷ ns') → (rs ≡ rs') × (ns ≡ ns')
path_one {s} t w d w' d' = unique (first_end s) (second_end s) t.forest w w' d d'

-- After the walk, the climb from a node is its path to the root: the nodes on the path are those above it.
pub climb_exactly : {s : List ℕ} {n x : ℕ} {parent half order place rs ns : List ℕ} → Net s n
    → Walked (first_end s) (second_end s) (n - 1) n parent half order place → x < n
    → Walk (first_end s) (second_end s) (First (n - 1)) x rs ns 0 → Distinct (x ∷ ns) → (z : ℕ)
    → In z (x ∷ ns) ↔ Above (at parent) z x
climb_exactly t w = climb_path t w
