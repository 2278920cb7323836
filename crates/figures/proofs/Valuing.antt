-- The figures of a pair: a pair has figures, and one length and one weight only.
use Prim.Native.Nat.{ℕ, ◌+◌, ◌-◌, ◌*◌, ◌<◌}
use mathlib.Core.Path.{◌≡◌, ap}
use mathlib.Core.Logic.{◌⊎◌, inl, inr}
use mathlib.Core.List.{List}
use native.Mathlib.Omega.{arith}
use native.Mathlib.Decide.{dec_lt}
use Rattle.arrays.specs.At.{at}
use Rattle.table.specs.work.Lift.{sum_lift, sum_end}
use Rattle.layout.specs.work.Spotted.{LeastOf}
use Rattle.figures.specs.work.Figures.{Joins, Figures, Figurable}
use Rattle.figures.proofs.Leasts.{least_some, least_only}

-- of two spots there are figures
module _ {n : ℕ} {spot above far heavy : List ℕ} (F : Figurable n spot above far heavy) {i j : ℕ} (o : i < j)
    (b : j < n) where
  pub joins_of : {m : ℕ} → LeastOf (at above) (i + 1) j m
      → Joins above far heavy i j (at far i + at far j - 2 * at far m)
      (at heavy i + at heavy j + sum_lift - 2 * at heavy m)
      × (at heavy i + at heavy j + sum_lift - 2 * at heavy m < sum_end)
  joins_of {m} L =
      let h = F.heavy_room i j m o b L in (
        record { meet = m; least = L; length = omega (arith, F.far_room i j m o b L); weight = omega (arith, h) },
        omega (arith, h, F.heavy_most i j m o b L),
      )

  joins_some : (l : ℕ) × (x : ℕ) × Joins above far heavy i j l x
  joins_some =
      let e : i + 1 + (j - (i + 1)) ≡ j = omega arith in
      let m = rw e at (least_some (at above) (i + 1) (j - (i + 1))) in (
        at far i + at far j - 2 * at far m.0,
        at heavy i + at heavy j + sum_lift - 2 * at heavy m.0,
        (joins_of m.1).0,
      )

-- and no others
joins_only : {above far heavy : List ℕ} {i j l x k y : ℕ} → Joins above far heavy i j l x
    → Joins above far heavy i j k y → (l ≡ k) × (x ≡ y)
joins_only {far = far} {heavy = heavy} p r =
    let e = least_only p.least r.least in
    (omega (arith, p.length, r.length, ap (at far) e), omega (arith, p.weight, r.weight, ap (at heavy) e))

module _ {n : ℕ} {spot above far heavy : List ℕ} (F : Figurable n spot above far heavy) {a b : ℕ} (o : a < b)
    (c : b < n) where
  -- of two nodes one has the earlier spot
  pub either : (at spot a < at spot b) ⊎ (at spot b < at spot a)
  either = pick (dec_lt (at spot a) (at spot b)) (dec_lt (at spot b) (at spot a))
    where
      pick : Dec (at spot a < at spot b) → Dec (at spot b < at spot a)
          → (at spot a < at spot b) ⊎ (at spot b < at spot a)
      pick (yes h) k = inl h
      pick (no h) (yes k) = inr k
      pick (no h) (no k) = absurd (omega (arith, F.one a b (omega arith) c (omega arith)))

  pub figures_only : {l x k y : ℕ} → Figures spot above far heavy a b l x → Figures spot above far heavy a b k y
      → (l ≡ k) × (x ≡ y)
  figures_only {l} {x} {k} {y} p q = pick either
    where
      pick : (at spot a < at spot b) ⊎ (at spot b < at spot a) → (l ≡ k) × (x ≡ y)
      pick (inl h) = joins_only (p.rises h) (q.rises h)
      pick (inr h) = joins_only (p.falls h) (q.falls h)

  -- a lifted weight ends where all such do
  pub figures_light : {l x : ℕ} → Figures spot above far heavy a b l x → x < sum_end
  figures_light {l} {x} p = pick either
    where
      below : {i j : ℕ} → i < j → j < n → Joins above far heavy i j l x → x < sum_end
      below {i} {j} h k q = omega (arith, q.weight, F.heavy_most i j q.meet h k q.least)

      pick : (at spot a < at spot b) ⊎ (at spot b < at spot a) → x < sum_end
      pick (inl h) = below h (F.spots b c) (p.rises h)
      pick (inr h) = below h (F.spots a (omega arith)) (p.falls h)

  pub figures_some : (l : ℕ) × (x : ℕ) × Figures spot above far heavy a b l x
  figures_some = pick either
    where
      pick : (at spot a < at spot b) ⊎ (at spot b < at spot a)
          → (l : ℕ) × (x : ℕ) × Figures spot above far heavy a b l x
      pick (inl h) =
          let j = joins_some F h (F.spots b c) in
          (j.0, j.1, record { rises = λ k. j.2; falls = λ k. absurd (omega arith) })
      pick (inr h) =
          let j = joins_some F h (F.spots a (omega arith)) in
          (j.0, j.1, record { rises = λ k. absurd (omega arith); falls = λ k. j.2 })
