-- Half-branches have the ends of their row; the chain of a node's half-branches, from the highest down.
use Prim.Native.Nat.{ℕ, ◌+◌, ◌-◌, ◌*◌, ◌/◌, ◌%◌, ◌≤◌, ◌<◌}
use mathlib.Core.Path.{◌≡◌, refl, sym, ap, ◌∙◌}
use mathlib.Core.Logic.{inl, inr, ◌≢◌}
use mathlib.Core.List.{List}
use native.Mathlib.Omega.{arith}
use native.Mathlib.Decide.{ℕ_discrete}
use lib.ListN.{length, set, length-set}
use lib.Seq.{get_or-set_same, get_or-set_other}
use Rattle.arrays.specs.At.{at}
use Rattle.net.specs.Graph.{Ends}
use Rattle.reach.specs.work.Half.{from}
use Rattle.net.specs.work.Rows.{RowsFit}
use Rattle.reach.specs.work.Chains.{Last, Chained}

module _ (us vs : ℕ → ℕ) (h : ℕ) where
  pub from_even : h % 2 ≡ 0 → from us vs h ≡ us (h / 2)
  unfolding from
  from_even e = pick (ℕ_discrete (h % 2) 0)
    where
      pick : (d : Dec (h % 2 ≡ 0)) → (elim d as (λ d. ℕ) [ yes e ↦ us (h / 2) | no n ↦ vs (h / 2) ]) ≡ us (h / 2)
      pick (yes e) = refl
      pick (no n) = absurd (n e)

  pub from_odd : h % 2 ≢ 0 → from us vs h ≡ vs (h / 2)
  unfolding from
  from_odd n = pick (ℕ_discrete (h % 2) 0)
    where
      pick : (d : Dec (h % 2 ≡ 0)) → (elim d as (λ d. ℕ) [ yes e ↦ us (h / 2) | no n ↦ vs (h / 2) ]) ≡ vs (h / 2)
      pick (yes e) = absurd (n e)
      pick (no n) = refl

  pub from_fits : {rows n : ℕ} → RowsFit us vs rows n → h < 2 * rows → from us vs h < n
  from_fits {n} f b = pick (ℕ_discrete (h % 2) 0)
    where
      pick : Dec (h % 2 ≡ 0) → from us vs h < n
      pick (yes e) = rw (from_even e) (f.first (h / 2) (omega arith))
      pick (no m) = rw (from_odd m) (f.second (h / 2) (omega arith))

pub half_ends : (us vs : ℕ → ℕ) (h : ℕ) → Ends us vs (h / 2) (from us vs h) (from vs us h)
half_ends us vs h = pick (ℕ_discrete (h % 2) 0)
  where
    pick : Dec (h % 2 ≡ 0) → Ends us vs (h / 2) (from us vs h) (from vs us h)
    pick (yes e) = inl (sym (from_even us vs h e), sym (from_even vs us h e))
    pick (no n) = inr (sym (from_odd vs us h n), sym (from_odd us vs h n))

pub flip_fit : {us vs : ℕ → ℕ} {rows n : ℕ} → RowsFit us vs rows n → RowsFit vs us rows n
flip_fit f = record { first = f.second; second = f.first }

-- a row's ends are a half-branch's
pub ends_half : (us vs : ℕ → ℕ) (rows : ℕ) (r a c : ℕ) → r < rows → Ends us vs r a c
    → (h : ℕ) × (h < 2 * rows) × (from us vs h ≡ a) × (from vs us h ≡ c)
ends_half us vs rows r a c l (inl e) =
    let q : 2 * r / 2 ≡ r = omega arith in
    let z : 2 * r % 2 ≡ 0 = omega arith in
    (2 * r, omega arith, from_even us vs (2 * r) z ∙ rw q e.0, from_even vs us (2 * r) z ∙ rw q e.1)
ends_half us vs rows r a c l (inr e) =
    let q : (2 * r + 1) / 2 ≡ r = omega arith in
    let z : (2 * r + 1) % 2 ≢ 0 = omega arith in
    (2 * r + 1, omega arith, from_odd us vs (2 * r + 1) z ∙ rw q e.1, from_odd vs us (2 * r + 1) z ∙ rw q e.0)

-- the two halves of one row lead each other's way
pub swap_half : (us vs : ℕ → ℕ) (h g : ℕ) → h / 2 ≡ g / 2 → h ≢ g → from us vs g ≡ from vs us h
swap_half us vs h g e n = pick (ℕ_discrete (h % 2) 0) (ℕ_discrete (g % 2) 0)
  where
    pick : Dec (h % 2 ≡ 0) → Dec (g % 2 ≡ 0) → from us vs g ≡ from vs us h
    pick (yes a) (yes b) = absurd (n (omega arith))
    pick (yes a) (no b) = from_odd us vs g b ∙ ap vs (sym e) ∙ sym (from_even vs us h a)
    pick (no a) (yes b) = from_even us vs g b ∙ ap us (sym e) ∙ sym (from_odd vs us h a)
    pick (no a) (no b) = absurd (n (omega arith))

module _ (q : ℕ → ℕ) where
  pub last_none : (v : ℕ) → Last q v 0 0
  last_none v = record { below = omega arith; hit = λ h. absurd (omega arith); none = λ h a b. absurd (omega arith) }

  pub last_hit : (k v : ℕ) → q k ≡ v → Last q v (k + 1) (k + 1)
  last_hit k v e = record { below = omega arith; hit = λ h. rw (same) e; none = λ h a b. absurd (omega arith) }
    where
      same : k + 1 - 1 ≡ k
      same = omega arith

  pub last_miss : (k v x : ℕ) → q k ≢ v → Last q v k x → Last q v (k + 1) x
  last_miss k v x n l =
      record { below = omega (arith, l.below); hit = l.hit; none = λ h a b. pick h a b (ℕ_discrete h k) }
    where
      pick : (h : ℕ) → x ≤ h → h < k + 1 → Dec (h ≡ k) → q h ≢ v
      pick h a b (yes e) = rw e n
      pick h a b (no m) = l.none h a (omega arith)

module _ (us vs : ℕ → ℕ) (rows : ℕ) where
  pub chained_none : (first next : List ℕ) → length first ≡ 4096 → length next ≡ 8192
      → ((v : ℕ) → v < 4096 → at first v ≡ 0) → Chained us vs rows 0 first next
  chained_none first next l m z =
      record {
        within = omega arith;
        long = (l, m);
        firsts = λ v h. rw (z v h) (last_none _ v);
        nexts = λ h b. absurd (omega arith);
      }

  pub chained_more : (k v : ℕ) (first next : List ℕ) → RowsFit us vs rows 4096 → rows < 4096 → k < 2 * rows
      → v ≡ from us vs k → Chained us vs rows k first next
      → Chained us vs rows (k + 1) (set first v (k + 1)) (set next k (at first v))
  chained_more k v first next f s b e c = record {
    within = omega arith;
    long = (length-set first v _ ∙ c.long.0, length-set next k _ ∙ c.long.1);
    firsts = λ w h. pick_first w h (ℕ_discrete w v);
    nexts = λ h b. pick_next h b (ℕ_discrete h k);
  }
    where
      fits : v < 4096
      fits = rw e (from_fits us vs k f b)

      pick_first : (w : ℕ) → w < 4096 → Dec (w ≡ v) → Last (from us vs) w (k + 1) (at (set first v (k + 1)) w)
      pick_first w h (yes q) =
          rw (q, get_or-set_same first v (k + 1) 0 (omega (arith, fits, c.long.0))) (last_hit _ k v (sym e))
      pick_first w h (no m) =
          rw (get_or-set_other first v w (k + 1) 0 m) (last_miss _ k w _ (λ q. m (sym q ∙ sym e)) (c.firsts w h))

      pick_next : (h : ℕ) → h < k + 1 → Dec (h ≡ k)
          → Last (from us vs) (from us vs h) h (at (set next k (at first v)) h)
      pick_next h b₁ (yes q) =
          rw (q, get_or-set_same next k (at first v) 0 (omega (arith, c.long.1)))
          (rw e (c.firsts (from us vs k) (from_fits us vs k f b)))
      pick_next h b₁ (no m) = rw (get_or-set_other next k h (at first v) 0 m) (c.nexts h (omega arith))

  pub chained_all : (k : ℕ) (first next : List ℕ) → Chained us vs rows k first next → 2 * rows ≤ k
      → Chained us vs rows (2 * rows) first next
  chained_all k first next c b = let e : k ≡ 2 * rows = omega (arith, c.within) in rw e at c
