-- Theorems on the pair's answer: what an answer that is no refusal shows, that its hops are bounded, and that the order
-- of the two nodes does not matter.
use Prim.Native.Nat.{ℕ, ◌+◌, ◌-◌, ◌*◌, ◌≤◌}
use mathlib.Core.Path.{◌≡◌, ap}
use mathlib.Core.List.{List}
use native.Mathlib.Omega.{arith}
use lib.IntN.{ℤ}
use Rattle.table.specs.Header.{nodes_of}
use Rattle.table.proofs.Refusals.{past, unless_map, unless_alike}
use Rattle.net.specs.Count.{Count}
use Rattle.net.specs.Net.{first_end, second_end, TwoNodes}
use Rattle.net.specs.work.Net.{Net}
use Rattle.tree.proofs.Begins.{begins_past, begins_alike}
use Rattle.net.proofs.Flip.{value_flip, two_flip}
use Rattle.spines.specs.Spine.{ChildOf, Leaf}
use Rattle.spines.specs.FloorLog.{FloorLog}
use Rattle.spines.proofs.HopsBound.{hops_flip}
use Rattle.spines.proofs.Theorems.{hops_at_most}
use Rattle.pair.specs.Pair.{PairAnswer, pair_refusal, ShowsPath, Measures, PairOf, found}
use Rattle.std.specs.Prelude.{Ok, Err}
use Rattle.pair.proofs.Only.{measures_only}

abbrev taken : PairAnswer → ℕ
taken (Ok o) = 1
taken (Err why) = 0

module _ (s marks : List ℕ) (a b : ℕ) {l h : ℕ} {w : ℤ} (p : PairOf s marks a b (found l w h)) where
  plain : (k r g : ℕ) → pair_refusal k r g ≡ found l w h → ⊥
  plain k r g e = omega (arith, ap taken e)

  -- an answer that is no refusal shows the path between two different nodes of an accepted net
  pub pair_shows : Net s (nodes_of s) × TwoNodes (nodes_of s) a b × ShowsPath s marks (nodes_of s) a b (found l w h)
  pair_shows =
      let n = begins_past pair_refusal s plain p in
      let r = past (plain 15 0 0) (past (plain 13 0 0) n.1).1 in
      (n.0, r.0, r.1)

  -- its hops are at most 1 + 2 × floor(log2 of the number of leaves)
  pub pair_hops : (m c : ℕ)
      → Count (Leaf (ChildOf (first_end s) (second_end s) (nodes_of s - 1) (nodes_of s)) (nodes_of s)) m → FloorLog m c
      → h ≤ 1 + 2 * c
  pair_hops m c k f = let q = pair_shows in hops_at_most q.0 q.1.first q.1.second q.2.1 k f

-- Either order
shows_flip : (s marks : List ℕ) (n a b : ℕ) (x : PairAnswer) → ShowsPath s marks n a b x → ShowsPath s marks n b a x
shows_flip s marks n a b (Ok o) p = (value_flip (first_end s) (second_end s) p.0, hops_flip p.1)
shows_flip s marks n a b (Err why) p = p

measures_flip : (s marks : List ℕ) {n a b : ℕ} {x : PairAnswer} → Measures s marks n a b x → Measures s marks n b a x
measures_flip s marks {n} {a} {b} {x} =
    unless_map (λ o. o) (λ _. unless_alike two_flip two_flip (shows_flip s marks n a b x))

pub pair_either : (s marks : List ℕ) (a b : ℕ) (x y : PairAnswer) → PairOf s marks a b x → PairOf s marks b a y → x ≡ y
pair_either s marks a b =
    begins_alike pair_refusal s (λ t x y p q. measures_only s marks (nodes_of s) b a t x y (measures_flip s marks p) q)
