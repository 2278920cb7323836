-- The order of a walk: each node once, parents before children.
use Prim.Native.Nat.{ℕ, zero, suc, ◌/◌, ◌≤◌, ◌<◌}
use mathlib.Core.Path.{◌≡◌, sym, ap, ◌∙◌}
use mathlib.Core.Logic.{inl, inr, ◌≢◌}
use mathlib.Core.List.{List}
use native.Mathlib.Omega.{arith}
use native.Mathlib.Decide.{ℕ_discrete}
use Rattle.arrays.specs.At.{at}
use Rattle.net.specs.Graph.{First, Ends, Walk, stop, go, Joined}
use Rattle.net.specs.work.Forest.{Forest}
use Rattle.net.specs.Count.{Count}
use Rattle.net.specs.work.Rooted.{Rooted}
use Rattle.reach.specs.work.Walked.{Reached, Walked}
use Rattle.reach.specs.work.Grown.{Grown, Ordered}
use Rattle.net.specs.work.Rows.{RowsFit}
use Rattle.net.proofs.Rows.{ends_flip}
use Rattle.net.proofs.Joined.{joined_trans, joined_sym}
use Rattle.net.proofs.Counts.{
  count_unique,
  count_same,
  count_none,
  count_more,
  count_all,
}
use Rattle.net.proofs.Above.{Tree}
use Rattle.reach.proofs.Chained.{from_fits, half_ends}

pub grown_tree : {n : ℕ} {parent order place : List ℕ} → Grown n parent order place → Tree n (at parent) (at place)
grown_tree g = record { fits = g.fits; earlier = g.earlier; within = λ x b. (g.here x b).0 }

module _ {n : ℕ} {parent order place : List ℕ} (g : Grown n parent order place) where
  pub ordered : Ordered n parent order
  ordered = record { place = place; holds = g }

  pub root_place : at place 0 ≡ 0
  root_place = ap (at place) (sym g.root) ∙ g.back 0 g.some.0

  pub not_root : (i : ℕ) → 0 < i → i < n → at order i ≢ 0
  not_root i z b e = omega (arith, g.back i b, root_place, ap (at place) e)

  pub same_place : (x y : ℕ) → x < n → y < n → at place x ≡ at place y → x ≡ y
  same_place x y b c e = sym (g.here x b).1 ∙ ap (at order) e ∙ (g.here y c).1

  pub par_fits : (i : ℕ) → 0 < i → i < n → at parent (at order i) < n
  par_fits i z b = g.fits (at order i) (g.within i b) (not_root i z b)

  pub par_earlier : (i : ℕ) → 0 < i → i < n → at place (at parent (at order i)) < i
  par_earlier i z b = omega (arith, g.earlier (at order i) (g.within i b) (not_root i z b), g.back i b)

  -- what the code reads at place i
  pub read_node : (i v : ℕ) → i < n → v ≡ at order i → v < 4096
  read_node i v b e = omega (arith, g.within i b, g.some.1)

  pub read_parent : (i v p : ℕ) → 0 < i → i < n → v ≡ at order i → p ≡ at parent v → p < 4096
  read_parent i v p z b e f = omega (arith, par_fits i z b, g.some.1, ap (at parent) e)

-- From the walk's promise, where the rows join nodes below n
module _ (us vs : ℕ → ℕ) (rows n m : ℕ) (parent half order place : List ℕ) (small : n ≤ 4096) (some : 1 ≤ n)
    (fit : RowsFit us vs rows n) (w : Walked us vs rows m parent half order place) where
  abbrev J : ℕ → Type 0
  J x = Joined us vs (First rows) 0 x

  walk_fits : {a b : ℕ} {rs ns : List ℕ} → a < n → Walk us vs (First rows) a rs ns b → b < n
  walk_fits l stop = l
  walk_fits {a} l (go {r} {c = c} h e k) = walk_fits (side e) k
    where
      side : Ends us vs r a c → c < n
      side (inl e) = rw e.1 at (fit.second r h)
      side (inr e) = rw e.0 at (fit.first r h)

  node : (i : ℕ) → i < m → at order i < n
  node i b = walk_fits some (w.joined i b).2

  placed : (i : ℕ) → i ≤ m → Count (λ x. (x < n) × J x × (at place x < i)) i
  placed zero l = count_none (λ x h. omega (arith, h.2))
  placed (suc i) l =
      count_more (at order i)
      (node i (omega arith), w.joined i (omega arith), omega (arith, w.back i (omega arith)))
      (λ h. omega (arith, h.2, w.back i (omega arith))) rest
      (λ x h. (h.0, h.1, omega (arith, h.2))) (placed i (omega arith))
    where
      rest : (x : ℕ) → (x < n) × J x × (at place x < suc i) → x ≢ at order i → (x < n) × J x × (at place x < i)
      rest x h m = (h.0, h.1, omega (arith, h.2, elsewhere))
        where
          elsewhere : at place x ≢ i
          elsewhere e = m (sym (w.listed x (omega (arith, h.0)) h.1).1 ∙ ap (at order) e)

  -- m is the number of nodes that are joined to node 0
  reached_count : Count (λ x. (x < n) × J x) m
  reached_count =
      count_same (λ x h. (h.0, h.1)) (λ x h. (h.0, h.1, (w.listed x (omega (arith, h.0)) h.1).0))
      (placed m (omega arith))

  -- where all n nodes are joined, so many were reached
  pub reached_all : ((x : ℕ) → x < n → J x) → m ≡ n
  reached_all all =
      count_unique (count_same {Q = λ x. x < n} (λ x h. h.0) (λ x h. (h, all x h)) reached_count) (count_all n)

module _ (us vs : ℕ → ℕ) (rows n : ℕ) (parent half order place : List ℕ) (small : n ≤ 4096) (some : 1 ≤ n)
    (fit : RowsFit us vs rows n) (all : (x : ℕ) → x < n → Joined us vs (First rows) 0 x)
    (w : Walked us vs rows n parent half order place) where
  here : (x : ℕ) → x < n → (at place x < n) × (at order (at place x) ≡ x)
  here x b = w.listed x (omega arith) (all x b)

  not_first : (x : ℕ) → x < n → x ≢ 0 → 0 < at place x
  not_first x b z = pick (ℕ_discrete (at place x) 0)
    where
      pick : Dec (at place x ≡ 0) → 0 < at place x
      pick (yes e) = absurd (z (sym (here x b).1 ∙ rw e w.root))
      pick (no e) = omega arith

  child : (x : ℕ) → x < n → x ≢ 0 → Reached us vs rows parent half x
  child x b z = rw (here x b).1 at (w.child (at place x) (not_first x b z) (here x b).0)

  pub walked_grown : Grown n parent order place
  walked_grown = record {
    some = (some, small);
    root = w.root;
    within = node us vs rows n n parent half order place small some fit w;
    back = w.back;
    here = here;
    fits = λ x b z. let c = child x b z in rw c.leaves at (from_fits us vs (at half x) fit c.fits);
    earlier = λ x b z. rw (here x b).1 at (w.above (at place x) (not_first x b z) (here x b).0).0;
  }

  pub walked_rooted : Forest us vs rows → Rooted us vs rows n (at parent) (λ x. at half x / 2) (at place)
  walked_rooted F = record {
    forest = F;
    fits = λ r h. (fit.first r h, fit.second r h);
    all = λ a b h k. joined_trans us vs (joined_sym us vs (all a h)) (all b k);
    row_fits = λ x b z. omega (arith, (child x b z).fits);
    par_fits = λ x b z. let c = child x b z in rw c.leaves at (from_fits us vs (at half x) fit c.fits);
    ends = λ x b z. let c = child x b z in ends_flip us vs (rw (c.leaves, c.leads) at (half_ends us vs (at half x)));
    earlier = λ x b z. rw (here x b).1 at (w.above (at place x) (not_first x b z) (here x b).0).0;
  }
