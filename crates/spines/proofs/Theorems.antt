-- The theorems of this crate, each by the law that proves it. A net of n nodes has the rows below n − 1; row r joins
-- `first_end s r` and `second_end s r`.
use Prim.Native.Nat.{ℕ, ◌+◌, ◌-◌, ◌*◌, ◌≤◌, ◌<◌}
use mathlib.Core.Path.{◌≡◌}
use mathlib.Core.List.{List}
use Rattle.net.specs.Count.{Count}
use Rattle.net.specs.Net.{first_end, second_end}
use Rattle.net.specs.work.Net.{Net}
use Rattle.net.proofs.Hung.{net_hangs}
use Rattle.spines.specs.Spine.{ChildOf, Leaf, Leaves}
use Rattle.spines.specs.Hops.{Hops}
use Rattle.spines.specs.FloorLog.{FloorLog}
use Rattle.spines.specs.Heads.{HeadOf}
use Rattle.spines.proofs.FloorLog.{log_some}
use Rattle.spines.proofs.Leaves.{many, many_leaves, many_some}
use Rattle.spines.proofs.Head.{head_of}
use Rattle.spines.proofs.Same.{same_leaves}
use Rattle.spines.proofs.Net.{child_net, net_child, head_net, net_head_only}
use Rattle.spines.proofs.HopsBound.{hops_bound, leaves_root}

-- Every node of an accepted net has a head,
pub head_there : {s : List ℕ} {n : ℕ} (x : ℕ) → Net s n → x < n → (h : ℕ) × HeadOf s n h x
head_there x t b =
    let g = net_hangs t in
    let h = head_of g.tree x b in
    (h.0, head_net g.rooted g.tree t.some h.1)

-- and one only.
pub head_single : {s : List ℕ} {n h g x : ℕ} → Net s n → HeadOf s n h x → HeadOf s n g x → h ≡ g
head_single t = net_head_only t.forest

-- Every node has a number of leaves below it, so that the child with most of them (`Main`) is chosen among numbers that
-- there are.
pub leaves_each : {s : List ℕ} {n : ℕ} (v : ℕ) → Net s n
    → (a : ℕ) × Leaves (ChildOf (first_end s) (second_end s) (n - 1) n) n v a
leaves_each v t =
    let g = net_hangs t in (
      many g.tree v,
      same_leaves (child_net g.rooted g.tree t.some) (net_child g.rooted g.tree t.some) v _
          (many_leaves g.tree v),
    )

-- Hops never exceed 1 + 2 × floor(log2 of the number of leaves).
pub hops_at_most : {s : List ℕ} {n x y h a c : ℕ} → Net s n → x < n → y < n
    → Hops (first_end s) (second_end s) (n - 1) n x y h → Count
    (Leaf (ChildOf (first_end s) (second_end s) (n - 1) n) n) a
    → FloorLog a c → h ≤ 1 + 2 * c
hops_at_most {x = x} {y = y} {h = h} {a = a} {c = c} t bx by p l f =
    let g = net_hangs t in
    hops_bound g.rooted g.tree t.some x y h a c bx by p l f

-- There is such a number of leaves, and it has such a logarithm.
pub leaves_there : {s : List ℕ} {n : ℕ} → Net s n
    → (a : ℕ) × (c : ℕ) × Count (Leaf (ChildOf (first_end s) (second_end s) (n - 1) n) n) a × FloorLog a c
leaves_there t =
    let g = net_hangs t in
    let a = many g.tree 0 in
    let c = log_some a (many_some g.tree 0 t.some) in
    (a, c.0, leaves_root g.rooted g.tree t.some a (many_leaves g.tree 0), c.1)
