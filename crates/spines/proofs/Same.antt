-- Where the children are the same, so are the leaves, the spines, their heads and what a path touches.
use Prim.Native.Nat.{ℕ}
use mathlib.Core.List.{List}
use Rattle.net.proofs.Counts.{count_same}
use Rattle.spines.specs.Spine.{Under, here, step, Leaf, LeafUnder, Leaves, Main, Head, top, down}
use Rattle.spines.specs.Hops.{Touched}

module _ {C D : ℕ → ℕ → Type 0} {n : ℕ} where
  same_under : ((p c : ℕ) → C p c → D p c) → {t x : ℕ} → Under C n t x → Under D n t x
  same_under to here = here
  same_under to (step {p} {c} k h) = step (to p c k) (same_under to h)

  module _ (to : (p c : ℕ) → C p c → D p c) (fro : (p c : ℕ) → D p c → C p c) where
    pub same_leaf : (x : ℕ) → Leaf C n x → Leaf D n x
    same_leaf x l = record { fits = l.fits; none = λ c k. l.none c (fro x c k) }

    same_leaf_under : (t x : ℕ) → LeafUnder C n t x → LeafUnder D n t x
    same_leaf_under t x h = record { leaf = same_leaf x h.leaf; under = same_under to h.under }

module _ {C D : ℕ → ℕ → Type 0} {n : ℕ} (to : (p c : ℕ) → C p c → D p c) (fro : (p c : ℕ) → D p c → C p c) where
  pub same_leaves : (t k : ℕ) → Leaves C n t k → Leaves D n t k
  same_leaves t k l = count_same (same_leaf_under to fro t) (same_leaf_under fro to t) l

module _ {C D : ℕ → ℕ → Type 0} {n : ℕ} (to : (p c : ℕ) → C p c → D p c) (fro : (p c : ℕ) → D p c → C p c) where
  same_main : (p c : ℕ) → Main C n p c → Main D n p c
  same_main p c m =
      record {
        child = to p c m.child;
        most = λ d a b k x y. m.most d a b (fro p d k) (same_leaves fro to c a x) (same_leaves fro to d b y);
      }

module _ {C D : ℕ → ℕ → Type 0} {n : ℕ} (to : (p c : ℕ) → C p c → D p c) (fro : (p c : ℕ) → D p c → C p c) where
  pub same_head : {h x : ℕ} → Head C n h x → Head D n h x
  same_head (top {x} b o) = top b (λ p m. o p (same_main fro to p x m))
  same_head (down {h} {p} {x} m k) = down (same_main to fro p x m) (same_head k)

  pub same_touched : (ns : List ℕ) (h : ℕ) → Touched C n ns h → Touched D n ns h
  same_touched ns h t = record { node = t.node; on = t.on; head = same_head t.head }
