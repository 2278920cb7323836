-- The child with most leaves: every node that has a child has one, and only one.
use Prim.Native.Nat.{ℕ, zero, suc, ◌≤◌, ◌<◌}
use mathlib.Core.Path.{◌≡◌, sym, ap}
use mathlib.Core.Logic.{◌⊎◌, inl, inr}
use native.Mathlib.Omega.{arith}
use native.Mathlib.Decide.{ℕ_discrete, dec_le}
use Rattle.net.proofs.Counts.{count_unique}
use Rattle.net.proofs.Above.{Tree}
use Rattle.spines.specs.Spine.{Main}
use Rattle.spines.specs.work.Parents.{Child}
use Rattle.spines.proofs.Leaves.{child?, many, many_leaves}

module _ {n : ℕ} {par place : ℕ → ℕ} (T : Tree n par place) where
  -- the best of the children below c
  abbrev pub BestOf : ℕ → ℕ → ℕ → Type 0
  BestOf p c q =
      Child n par p q
      × ((d : ℕ) → d < c → Child n par p d → (many T d ≤ many T q) × (many T d ≡ many T q → q ≤ d))
      × (q < c)

  unfoldable pub best : (p c : ℕ) → ((q : ℕ) × BestOf p c q) ⊎ ((d : ℕ) → d < c → ¬ Child n par p d)
  best p zero = inr (λ d h. absurd (omega arith))
  best p (suc c) = pick (child? p c) (best p c)
    where
      pick : Dec (Child n par p c) → ((q : ℕ) × BestOf p c q) ⊎ ((d : ℕ) → d < c → ¬ Child n par p d)
          → ((q : ℕ) × BestOf p (suc c) q) ⊎ ((d : ℕ) → d < suc c → ¬ Child n par p d)
      pick (no m) (inr f) = inr (λ d h k. last d h k (ℕ_discrete d c))
        where
          last : (d : ℕ) → d < suc c → Child n par p d → Dec (d ≡ c) → ⊥
          last d h k (yes e) = m (rw e at k)
          last d h k (no e) = f d (omega arith) k
      pick (no m) (inl t) = inl (t.0, (t.1.0, (λ d h k. last d h k (ℕ_discrete d c)), omega (arith, t.1.2)))
        where
          last : (d : ℕ) → d < suc c → Child n par p d → Dec (d ≡ c)
              → (many T d ≤ many T t.0) × (many T d ≡ many T t.0 → t.0 ≤ d)
          last d h k (yes e) = absurd (m (rw e at k))
          last d h k (no e) = t.1.1 d (omega arith) k
      pick (yes j) (inr f) = inl (c, (j, (λ d h k. last d h k (ℕ_discrete d c)), omega arith))
        where
          last : (d : ℕ) → d < suc c → Child n par p d → Dec (d ≡ c)
              → (many T d ≤ many T c) × (many T d ≡ many T c → c ≤ d)
          last d h k (yes e) = (omega (arith, ap (many T) e), λ q. omega arith)
          last d h k (no e) = absurd (f d (omega arith) k)
      pick (yes j) (inl t) = which (dec_le (many T c) (many T t.0))
        where
          stay : many T c ≤ many T t.0 → (d : ℕ) → d < suc c → Child n par p d → Dec (d ≡ c)
              → (many T d ≤ many T t.0) × (many T d ≡ many T t.0 → t.0 ≤ d)
          stay l d h k (yes e) = (omega (arith, ap (many T) e), λ q. omega (arith, t.1.2))
          stay l d h k (no e) = t.1.1 d (omega arith) k

          beat : many T t.0 < many T c → (d : ℕ) → d < suc c → Child n par p d → Dec (d ≡ c)
              → (many T d ≤ many T c) × (many T d ≡ many T c → c ≤ d)
          beat l d h k (yes e) = (omega (arith, ap (many T) e), λ q. omega arith)
          beat l d h k (no e) =
              let o = t.1.1 d (omega arith) k in
              (omega (arith, o.0), λ q. absurd (omega (arith, o.0)))

          which : Dec (many T c ≤ many T t.0)
              → ((q : ℕ) × BestOf p (suc c) q) ⊎ ((d : ℕ) → d < suc c → ¬ Child n par p d)
          which (yes l) = inl (t.0, (t.1.0, (λ d h k. stay l d h k (ℕ_discrete d c)), omega (arith, t.1.2)))
          which (no l) = inl (c, (j, (λ d h k. beat (omega arith) d h k (ℕ_discrete d c)), omega arith))

  unfoldable pub main_some : {p c : ℕ} → Child n par p c → (m : ℕ) × Main (Child n par) n p m
  main_some {p} {c} k = pick (best p n)
    where
      pick : ((q : ℕ) × BestOf p n q) ⊎ ((d : ℕ) → d < n → ¬ Child n par p d) → (m : ℕ) × Main (Child n par) n p m
      pick (inr f) = absurd (f c k.fits k)
      pick (inl t) = (
        t.0,
        record {
          child = t.1.0;
          most = λ d a b j la lb.
              let e : a ≡ many T t.0 = count_unique la (many_leaves T t.0) in
              let f : b ≡ many T d = count_unique lb (many_leaves T d) in
              let o = t.1.1 d j.fits j in
              (omega (arith, o.0), λ q. o.1 (omega arith));
        },
      )

  pub main_one : {p c d : ℕ} → Main (Child n par) n p c → Main (Child n par) n p d → c ≡ d
  main_one {p} {c} {d} h k =
      let o = h.most d (many T c) (many T d) k.child (many_leaves T c) (many_leaves T d) in
      let q = k.most c (many T d) (many T c) h.child (many_leaves T d) (many_leaves T c) in
      let e : many T d ≡ many T c = omega (arith, o.0, q.0) in
      omega (arith, o.1 e, q.1 (sym e))

  unfoldable pub main? : (p c : ℕ) → Dec (Main (Child n par) n p c)
  main? p c = pick (child? p c)
    where
      same : (t : (m : ℕ) × Main (Child n par) n p m) → Dec (t.0 ≡ c) → Dec (Main (Child n par) n p c)
      same t (yes e) = yes (rw e at t.1)
      same t (no m) = no (λ h. m (main_one t.1 h))

      pick : Dec (Child n par p c) → Dec (Main (Child n par) n p c)
      pick (no m) = no (λ h. m h.child)
      pick (yes k) = let t = main_some k in same t (ℕ_discrete t.0 c)
