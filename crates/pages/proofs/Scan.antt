-- The second nodes of one first node in turn: what has been found below v, and one more.
use Prim.Native.Nat.{ℕ, ◌+◌, ◌≤◌, ◌<◌}
use mathlib.Core.Path.{◌≡◌, refl, ap, ◌∙◌}
use mathlib.Core.Logic.{◌⊎◌, inl, inr}
use mathlib.Core.List.{List}
use native.Mathlib.Omega.{arith}
use native.Mathlib.Decide.{ℕ_discrete}
use Rattle.arrays.specs.At.{at}
use Rattle.table.proofs.Lift.{diff_only}
use Rattle.pages.specs.Listing.{Entry, entry, second}
use Rattle.pages.specs.work.Lowered.{lower, InSums}
use Rattle.pages.specs.declared.Sums.{Sums}
use Rattle.pages.specs.work.Filling.{Added, GrownBy, Here, Seconds}
use Rattle.pages.proofs.Lift.{lower_is}
use Rattle.pages.proofs.Filling.{grown_none, grown_iff, grown_end}

module _ {Within : ℕ → Type 0} {key len wt : List ℕ} {u from : ℕ} {sums : Sums} where
  here_below : {v x : ℕ} {e : Entry} → e.high < x → Here Within key len wt u from sums v e
      → Here Within key len wt u from sums x e
  here_below l h =
      record {
        one = h.one;
        since = h.since;
        upto = l;
        reach = h.reach;
        load = h.load;
        short = h.short;
        heavy = h.heavy;
      }

  pub here_up : (v : ℕ) (e : Entry) → Here Within key len wt u from sums v e
      → Here Within key len wt u from sums (v + 1) e
  here_up v e h = here_below (omega (arith, h.upto)) h

  pub here_down : (v : ℕ) (e : Entry) → Here Within key len wt u from sums (v + 1) e
      → Here Within key len wt u from sums v e ⊎ (e.high ≡ v)
  here_down v e h = pick (ℕ_discrete e.high v)
    where
      pick : Dec (e.high ≡ v) → Here Within key len wt u from sums v e ⊎ (e.high ≡ v)
      pick (yes q) = inr q
      pick (no q) = inl (here_below (omega (arith, h.upto)) h)

  pub here_is : (v : ℕ) (e : Entry) → Here Within key len wt u from sums (v + 1) e → e.high ≡ v
      → e ≡ entry u v (at len v) (lower (at wt v))
  here_is v e h q = λ i. record { low = h.one i; high = q i; length = l i; weight = w i }
    where
      l : e.length ≡ at len v
      l = h.reach ∙ ap (at len) q

      w : e.weight ≡ lower (at wt v)
      w = diff_only (rw q at h.load) (lower_is (at wt v))

  module _ (v : ℕ) {old mid : List ℕ} {g l g₁ l₁ : ℕ}
      (r : GrownBy (Here Within key len wt u from sums v) old g l mid g₁ l₁) where
    here_add : {now : List ℕ} {g₂ l₂ : ℕ} → from ≤ v → Within (at key v) → InSums sums (at wt v)
        → Added (entry u v (at len v) (lower (at wt v))) mid g₁ l₁ now g₂ l₂
        → GrownBy (Here Within key len wt u from sums (v + 1)) old g l now g₂ l₂
    here_add h p q a =
        grown_end (entry u v (at len v) (lower (at wt v))) r a
        (record {
          one = refl;
          since = h;
          upto = omega arith;
          reach = refl;
          load = lower_is (at wt v);
          short = p;
          heavy = q;
        })
        (here_up v) (λ x k. second k.one k.upto) (λ x k. pick x k (here_down v x k))
      where
        pick : (x : Entry) → Here Within key len wt u from sums (v + 1) x
            → Here Within key len wt u from sums v x ⊎ (x.high ≡ v)
            → Here Within key len wt u from sums v x ⊎ (x ≡ entry u v (at len v) (lower (at wt v)))
        pick x k (inl d) = inl d
        pick x k (inr q) = inr (here_is v x k q)

    here_skip : (Within (at key v) → InSums sums (at wt v) → ⊥)
        → GrownBy (Here Within key len wt u from sums (v + 1)) old g l mid g₁ l₁
    here_skip no_way = grown_iff (here_up v) (λ x k. pick x k (here_down v x k)) r
      where
        pick : (x : Entry) → Here Within key len wt u from sums (v + 1) x
            → Here Within key len wt u from sums v x ⊎ (x.high ≡ v) → Here Within key len wt u from sums v x
        pick x k (inl d) = d
        pick x k (inr q) = absurd (no_way (rw q at k.short) (rw q at k.heavy))

  module _ {old : List ℕ} {g l : ℕ} where
    pub seconds_none : Seconds Within key len wt u from sums from old g l old g l
    seconds_none = record { grown = grown_none old g l (λ e h. omega (arith, h.since, h.upto)); few = omega arith }

    module _ (v : ℕ) {mid : List ℕ} {g₁ l₁ : ℕ} (a : Seconds Within key len wt u from sums v old g l mid g₁ l₁)
        (z y : ℕ) (ez : z ≡ at key v) (ey : y ≡ at wt v) where
      pub seconds_add : {now : List ℕ} {g₂ l₂ : ℕ} (x : ℕ) → x ≡ at len v → from ≤ v → Within z × InSums sums y
          → Added (entry u v x (lower y)) mid g₁ l₁ now g₂ l₂
          → Seconds Within key len wt u from sums (v + 1) old g l now g₂ l₂
      seconds_add x ex h p d =
          record {
            grown = here_add v a.grown h (rw ez at p.0) (rw ey at p.1) (rw (ex, ey) at d);
            few = omega (arith, a.few, d.few);
          }

      pub seconds_skip : (Within z × InSums sums y → ⊥)
          → Seconds Within key len wt u from sums (v + 1) old g l mid g₁ l₁
      seconds_skip no_way =
          record {
            grown = here_skip v a.grown (λ p q. no_way (rw (← ez) at p, rw (← ey) at q));
            few = omega (arith, a.few);
          }
