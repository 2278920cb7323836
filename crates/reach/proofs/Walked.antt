-- Where the queue has run empty, exactly the nodes joined to the start are in the order.
use Prim.Native.Nat.{ℕ, zero, suc, ◌/◌, ◌≤◌, ◌<◌}
use mathlib.Core.Path.{◌≡◌, sym, ◌∙◌}
use mathlib.Core.Logic.{◌≢◌}
use mathlib.Core.List.{List}
use native.Mathlib.Omega.{arith}
use native.Mathlib.Decide.{ℕ_discrete}
use Rattle.arrays.specs.At.{at}
use Rattle.net.specs.Graph.{First, Walk, stop, go, Joined}
use Rattle.reach.specs.work.Walked.{High, WalkedFrom}
use Rattle.net.specs.work.Rows.{RowsFit}
use Rattle.reach.specs.work.Queue.{Queue, Outer}
use Rattle.net.proofs.Joined.{joined_refl, joined_step, joined_trans}
use Rattle.reach.proofs.Chained.{from_fits, flip_fit, half_ends, ends_half}

module _ {start : ℕ} (us vs : ℕ → ℕ) (rows : ℕ) (parent half order place : List ℕ) (head m : ℕ) (low : start < 4096)
    (fit : RowsFit us vs rows 4096) (o : Outer start us vs rows head m parent half order place) (end : m ≤ head) where
  Q₁ : Queue start us vs rows m parent half order place
  Q₁ = o.queue

  -- what a reached node leads to is reached
  reach_walk : {a b : ℕ} {rs ns : List ℕ} → Walk us vs (First rows) a rs ns b → a < 4096 → at parent a ≢ 4096
      → at parent b ≢ 4096
  reach_walk stop l n = n
  reach_walk (go {r} {a} {c} k e w) l n =
      let t = Q₁.placed a l n in
      let h = ends_half us vs rows r a c k e in
      let g = from_fits vs us h.0 (flip_fit fit) h.1 in
      reach_walk w (rw h.3 at g)
      (rw h.3 at (o.done (at place a) h.0 (omega (arith, t.0)) h.1 (h.2 ∙ sym t.1)))

  joined_at : (k i : ℕ) → i < k → i < m → Joined us vs (First rows) start (at order i)
  joined_at zero i l b = absurd (omega arith)
  joined_at (suc k) i l b = pick (ℕ_discrete i 0) (joined_at k)
    where
      pick : Dec (i ≡ 0) → ((j : ℕ) → j < k → j < m → Joined us vs (First rows) start (at order j))
          → Joined us vs (First rows) start (at order i)
      pick (yes e) ih = rw (e, Q₁.root) (joined_refl _ _ start)
      pick (no n) ih =
          let z : 0 < i = omega arith in
          let t = Q₁.above i z b in
          let c = Q₁.child i z b in
          let f : at half (at order i) / 2 < rows = omega (arith, c.fits) in
          joined_trans _ _ (rw t.1 at (ih (High parent order place i) (omega (arith, t.0)) (omega (arith, t.0))))
          (joined_step _ _ f (rw (c.leaves, c.leads) at (half_ends us vs (at half (at order i)))) (joined_refl _ _ _))

  pub walked : WalkedFrom start us vs rows m parent half order place
  walked = record {
    long = Q₁.long;
    some = (Q₁.some, omega (arith, Q₁.free.1));
    root = Q₁.root;
    top = Q₁.top;
    within = Q₁.within;
    back = Q₁.back;
    joined = λ i l. joined_at (suc i) i (omega arith) l;
    listed = λ v l w. Q₁.placed v l (reach_walk w.2 low (λ e. omega (arith, low, Q₁.top.0)));
    child = Q₁.child;
    above = Q₁.above;
    falls = Q₁.falls;
    others = λ v l n. lone v l n (ℕ_discrete (at parent v) 4096);
    rest = Q₁.rest;
  }
    where
      lone : (v : ℕ) → v < 4096 → ¬ Joined us vs (First rows) start v → Dec (at parent v ≡ 4096)
          → (at parent v ≡ 4096) × (at half v ≡ 0) × (at place v ≡ 0)
      lone v l n (yes e) = let t = Q₁.blank v l e in (e, t.0, t.1)
      lone v l n (no d) =
          let t = Q₁.placed v l d in
          absurd (n (rw t.1 at (joined_at (suc (at place v)) (at place v) (omega arith) t.0)))
