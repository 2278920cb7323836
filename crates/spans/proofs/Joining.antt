-- The best pair across two spans. `Sofar` grows by a place, `Going` is how far all is within the limit, `Sweep` is the
-- invariant of `join`'s loop: the places of up from i to m are done, those of down from m to j are passed, and what was
-- passed stays within the limit for all that is still to come. So where the limit is exact, of the partners passed only
-- the farthest can reach it, and that is the one kept.
use Prim.Native.Nat.{ℕ, ◌+◌, ◌-◌, ◌≤◌, ◌<◌}
use mathlib.Core.Path.{◌≡◌, sym, ap, ◌∙◌}
use mathlib.Core.Bool.{Bool, true}
use mathlib.Core.Logic.{◌⊎◌, inl, inr}
use mathlib.Core.List.{List}
use native.Mathlib.Omega.{arith}
use native.Mathlib.Decide.{ℕ_discrete, dec_lt}
use Rattle.arrays.specs.At.{at}
use Rattle.limits.specs.work.Fits.{Fits}
use Rattle.limits.specs.declared.Limit.{Limit}
use Rattle.limits.proofs.Tests.{fits_most, fits_least, fits_both}
use Rattle.spans.specs.work.Spans.{InSpan, By, Sorted}
use Rattle.spans.specs.work.Pairs.{Le, pair_across, Joinable, Across, JoinedBest}
use Rattle.spans.specs.work.Partners.{Ahead, Picked, Sofar, Advanced, Tried}
use Rattle.spans.specs.declared.across.Best.{Best}
use Rattle.spans.proofs.Merging.{in_wider}
use Rattle.spans.proofs.Order.{le_trans, ahead_trans, tie}

module _ (exact : Bool) (name d w down : List ℕ) (m e : ℕ) where
  pub sofar_more : (j node y r : ℕ) → Sofar exact name d w down m e j node → j < e → y ≡ at down j → y < 4096
      → Sorted (By d) down m e → Picked exact name d w m j node y r → Sofar exact name d w down m e (j + 1) r
  sofar_more j node y r h b q n ds f = record {
    low = omega (arith, h.low);
    high = omega arith;
    small = small f.comes;
    there = λ _. there f.comes;
    best = λ p x z. best p x z (ℕ_discrete p j);
  }
    where
      small : (r ≡ y) ⊎ ((m < j) × (r ≡ node)) → r < 4096
      small (inl u) = omega (arith, u)
      small (inr u) = omega (arith, u.1, h.small)

      there : (r ≡ y) ⊎ ((m < j) × (r ≡ node)) → InSpan down m (j + 1) r
      there (inl u) = record { spot = j; low = h.low; high = omega arith; is = sym q ∙ sym u }
      there (inr u) = rw u.1 (in_wider (h.there u.0) (omega arith) (omega arith))

      -- the new one is no nearer
      rise : m < j → at d node ≤ at d y
      rise l =
          let i : InSpan down m j node = h.there l in
          rw (← i.is, q) (ds.rise i.spot j i.low (omega (arith, i.high)) b).le

      best : (p : ℕ) → m ≤ p → p < j + 1 → Dec (p ≡ j) → Ahead exact name d w (at down p) r
      best p x z (yes u) = rw (u, ← q) (f.beats rise)
      best p x z (no u) = ahead_trans (h.best p x (omega arith)) (f.keeps (omega arith) (rise (omega arith)))

module _ (d down : List ℕ) (e key limit j : ℕ) where
  -- as far as k all is within the limit
  pub record Going (k : ℕ) : Type 0 where
    pub low : j ≤ k
    pub within : (p : ℕ) → j ≤ p → p < k → key + at d (at down p) ≤ limit

  pub going_more : (k y : ℕ) → Going k → y ≡ at down k → key + at d y ≤ limit → Going (k + 1)
  going_more k y h q b = record { low = omega (arith, h.low); within = λ p x z. within p x z (ℕ_discrete p k) }
    where
      within : (p : ℕ) → j ≤ p → p < k + 1 → Dec (p ≡ k) → key + at d (at down p) ≤ limit
      within p x z (yes u) = rw (u, ← q) b
      within p x z (no u) = h.within p x (omega arith)

-- The loop of joining: the rows from i to m are done, and the places of the other span from m to j are passed
module _ (name ku wu d w up down : List ℕ) (s m e : ℕ) (limit : Limit) (old : Best) where
  pub record Sweep (i j node : ℕ) (best : Best) : Type 0 where
    pub low : s ≤ i
    pub high : i ≤ m
    pub joined : JoinedBest name ku wu d w up down i m e (Fits limit) old best
    pub sofar : Sofar limit.exact name d w down m e j node
    pub below : (p q : ℕ) → m ≤ p → p < j → s ≤ q → q < i → at ku (at up q) + at d (at down p) ≤ limit.most

  pub sweep_more : (i x j node : ℕ) (best : Best) (j' node' : ℕ) (new : Best) → Sweep (i + 1) j node best
      → Sorted (By ku) up s m → Sorted (By d) down m e → s ≤ i → x ≡ at up i
      → Sofar limit.exact name d w down m e j' node' → Advanced d down e (at ku x) limit.most j j'
      → Tried (Fits limit) name ku wu d w m j' x node' best new → Sweep i j' node' new
  sweep_more i x j node best j' node' new h us ds b q f a o =
      record {
        low = b;
        high = omega (arith, h.high);
        joined = record {
          keeps = le_trans h.joined.keeps o.keeps;
          beats = λ k l h₁ h₂ h₃ h₄ h₅. beats k l h₁ h₂ h₃ h₄ h₅ (ℕ_discrete k i);
          comes = comes o.comes;
        };
        sofar = f;
        below =
            λ p k h₁ h₂ h₃ h₄. omega (
              arith,
              here p h₁ h₂,
              (us.rise k i h₃ (omega arith) (omega (arith, h.high))).le,
              ap (λ z. at ku z) q,
            );
      }
    where
      here : (p : ℕ) → m ≤ p → p < j' → at ku x + at d (at down p) ≤ limit.most
      here p h₁ h₂ = pick (dec_lt p j)
        where
          pick : Dec (p < j) → at ku x + at d (at down p) ≤ limit.most
          pick (yes u) = rw q (h.below p i h₁ u b (omega arith))
          pick (no u) = a.within p (omega arith) h₂

      beats : (k l : ℕ) → i ≤ k → k < m → m ≤ l → l < e → Fits limit (at ku (at up k) + at d (at down l)) → Dec (k ≡ i)
          → Le (pair_across name ku wu d w (at up k) (at down l)) new
      beats k l h₁ h₂ h₃ h₄ h₅ (no u) = le_trans (h.joined.beats k l (omega arith) h₂ h₃ h₄ h₅) o.keeps
      beats k l h₁ h₂ h₃ h₄ h₅ (yes u) = pick (dec_lt l j')
        where
          fits : Fits limit (at ku x + at d (at down l))
          fits = rw (q, ← u) h₅

          most : at ku x + at d (at down l) ≤ limit.most
          most = fits_most limit (at ku x + at d (at down l)) fits

          least : limit.exact ≡ true → limit.most ≤ at ku x + at d (at down l)
          least = fits_least limit (at ku x + at d (at down l)) fits

          -- what was passed makes no pair longer than the limit: so if it is exact, the partner kept is as far as l's
          pick : Dec (l < j') → Le (pair_across name ku wu d w (at up k) (at down l)) new
          pick (yes v) =
              let g : Ahead limit.exact name d w (at down l) node' = f.best l h₃ v in
              let n : InSpan down m j' node' = f.there (omega arith) in
              let near : at ku x + at d node' ≤ limit.most = rw n.is at (here n.spot n.low n.high) in
              let kept = fits_both limit (at ku x + at d node') near (λ z. omega (arith, least z, g.far z)) in
              let level : limit.exact ≡ true → at d node' ≤ at d (at down l) = λ z. omega (arith, near, least z) in
              rw (u, ← q)
              (le_trans (tie name ku wu d w x (at down l) node' (g.better level)) (o.beats (omega arith) kept))
          pick (no v) = absurd (omega (arith, most, a.stop (omega arith), (ds.rise j' l f.low (omega arith) h₄).le))

      wider : {z : Best} → Across name ku wu d w up down (i + 1) m e (Fits limit) z
          → Across name ku wu d w up down i m e (Fits limit) z
      wider c =
          record {
            i = c.i;
            j = c.j;
            i_low = omega (arith, c.i_low);
            i_high = c.i_high;
            j_low = c.j_low;
            j_high = c.j_high;
            short = c.short;
            is = c.is;
          }

      same : {z : Best} → z ≡ best → (best ≡ old) ⊎ Across name ku wu d w up down (i + 1) m e (Fits limit) best
          → (z ≡ old) ⊎ Across name ku wu d w up down i m e (Fits limit) z
      same u (inl v) = inl (u ∙ v)
      same u (inr v) = rw u (inr (wider v))

      comes : (new ≡ best) ⊎ ((m < j') × Fits limit (at ku x + at d node') × (new ≡ pair_across name ku wu d w x node'))
          → (new ≡ old) ⊎ Across name ku wu d w up down i m e (Fits limit) new
      comes (inl v) = same v h.joined.comes
      comes (inr v) =
          let n : InSpan down m j' node' = f.there v.0 in
          inr (record {
            i = i;
            j = n.spot;
            i_low = omega arith;
            i_high = omega (arith, h.high);
            j_low = n.low;
            j_high = omega (arith, n.high, f.high);
            short = rw (← q, n.is) v.1;
            is = rw (← q, n.is) v.2;
          })

  pub sweep_back : (i x j node : ℕ) (best : Best) (j' node' : ℕ) (new : Best) → Sweep i j node best
      → Joinable ku wu d w up down s m e → s < i → x ≡ at up (i - 1) → Sofar limit.exact name d w down m e j' node'
      → Advanced d down e (at ku x) limit.most j j' → Tried (Fits limit) name ku wu d w m j' x node' best new
      → Sweep (i - 1) j' node' new
  sweep_back i x j node best j' node' new h g b q f a o =
      let k : (i - 1) + 1 ≡ i = omega arith in
      sweep_more (i - 1) x j node best j' node' new (rw k h) g.up_sorted g.down_sorted (omega arith) q f a o
