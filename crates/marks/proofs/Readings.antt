-- What a mark reads as: every value is legal, for it is free, held by a run or spent by a run, and one of these only.
-- A run's own number is the mark of what it holds, and with the top bit set that of what it has spent.
use mathlib.Core.Path.{◌≡◌, refl, sym, ◌∙◌}
use mathlib.Core.Bool.{Bool, true, false}
use mathlib.Core.Logic.{◌⊎◌, inl, inr}
use Prim.Native.Nat.{ℕ, ◌≤◌, ◌<◌}
use native.Mathlib.Decide.{ℕ_discrete, dec_lt}
use native.Mathlib.Omega.{arith}
use lib.Dec.{leb}
use borrow.Author.Tests.{leb-true, leb-false}
use Rattle.marks.specs.Mark.{free, top, run_of, spend, Free, HeldBy, SpentBy, RunNumber}

-- EVERY MARK READS AS ONE THING
pub reads : (m : ℕ) → Free m ⊎ ((run : ℕ) × HeldBy run m) ⊎ ((run : ℕ) × SpentBy run m)
reads m = pick (ℕ_discrete m free) (dec_lt m top)
  where
    pick : Dec (Free m) → Dec (m < top) → Free m ⊎ ((run : ℕ) × HeldBy run m) ⊎ ((run : ℕ) × SpentBy run m)
    pick (yes f) l = inl f
    pick (no n) (yes l) = inr (inl (_, record { marked = omega (arith, n); unspent = l; keeps = refl }))
    pick (no n) (no l) = inr (inr (_, record { spent = omega (arith, l); keeps = refl }))

module _ {m : ℕ} where
  pub held_not_free : {run : ℕ} → HeldBy run m → Free m → ⊥
  held_not_free h f = omega (arith, h.marked, f)

  pub spent_not_free : {run : ℕ} → SpentBy run m → Free m → ⊥
  spent_not_free s f = omega (arith, s.spent, f)

  pub held_not_spent : {run other : ℕ} → HeldBy run m → SpentBy other m → ⊥
  held_not_spent h s = omega (arith, h.unspent, s.spent)

  pub held_one : {run other : ℕ} → HeldBy run m → HeldBy other m → run ≡ other
  held_one h k = sym h.keeps ∙ k.keeps

  pub spent_one : {run other : ℕ} → SpentBy run m → SpentBy other m → run ≡ other
  spent_one s t = sym s.keeps ∙ t.keeps

pub held? : (run m : ℕ) → Dec (HeldBy run m)
held? run m = pick (dec_lt free m) (dec_lt m top) (ℕ_discrete (run_of m) run)
  where
    pick : Dec (free < m) → Dec (m < top) → Dec (run_of m ≡ run) → Dec (HeldBy run m)
    pick (no n) l k = no (λ h. n h.marked)
    pick (yes f) (no n) k = no (λ h. n h.unspent)
    pick (yes f) (yes l) (no n) = no (λ h. n h.keeps)
    pick (yes f) (yes l) (yes k) = yes (record { marked = f; unspent = l; keeps = k })

-- what `is_spent` tells
pub told_spent : {t : Bool} {m : ℕ} → t ≡ leb top m → t ≡ true → top ≤ m
told_spent e h = leb-true top _ (sym e ∙ h)

pub told_unspent : {t : Bool} {m : ℕ} → t ≡ leb top m → t ≡ false → m < top
told_unspent e h = leb-false top _ (sym e ∙ h)

-- a run's own number
module _ {run : ℕ} (N : RunNumber run) where
  pub own_held : {m : ℕ} → m ≡ run → HeldBy run m
  own_held e = record {
    marked = omega (arith, N.above, e);
    unspent = omega (arith, N.below, e);
    keeps = omega (arith, N.below, e);
  }

  pub own_spent : SpentBy run (spend run)
  own_spent = record { spent = omega arith; keeps = omega (arith, N.below) }
