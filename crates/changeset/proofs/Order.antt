-- Refusal 34: the entries passed rise, and the row number that comes next must not be below `low`, which is one more
-- than the last one's.
use Prim.Native.Nat.{ℕ, ◌+◌, ◌≤◌, ◌<◌}
use mathlib.Core.Path.{◌≡◌, refl}
use mathlib.Core.List.{List}
use mathlib.Core.Logic.{◌⊎◌, inl, inr}
use native.Mathlib.Omega.{arith}
use native.Mathlib.Decide.{dec_lt}
use Rattle.changeset.specs.Entries.{row_for, RowsRise}
use Rattle.changeset.specs.work.Search.{EntryCount}

-- of m entries the i first rise, are below n − 1 and below `low`
pub record Rose (c : List ℕ) (n m low i : ℕ) : Type 0 where
  pub counted : EntryCount c m
  pub within : i ≤ m
  pub rise : (j k : ℕ) → j < k → k < i → row_for c j < row_for c k
  pub below : (j : ℕ) → j < i → row_for c j + 1 < n
  pub under : (j : ℕ) → j < i → row_for c j < low
  pub last : (low ≡ 0) ⊎ ((j : ℕ) × ((j < i) × (low ≡ row_for c j + 1)))

pub rose_none : {c : List ℕ} {n m : ℕ} → EntryCount c m → Rose c n m 0 0
rose_none h =
    record {
      counted = h;
      within = omega arith;
      rise = λ j k a b. absurd (omega arith);
      below = λ j a. absurd (omega arith);
      under = λ j a. absurd (omega arith);
      last = inl refl;
    }

module _ {c : List ℕ} {n m low i : ℕ} (h : Rose c n m low i) (l : i < m) (r : ℕ) (e : r ≡ row_for c i) where
  -- the next one does not rise, or is not below n − 1
  pub rose_falls : r < low → RowsRise n c → ⊥
  rose_falls a g = pick h.last
    where
      pick : (low ≡ 0) ⊎ ((j : ℕ) × ((j < i) × (low ≡ row_for c j + 1))) → ⊥
      pick (inl z) = omega arith
      pick (inr w) = omega (arith, g.rise w.0 i w.1.0 (h.counted.there i l), w.1.1)

  pub rose_far : n ≤ r + 1 → RowsRise n c → ⊥
  rose_far a g = omega (arith, g.below i (h.counted.there i l))

  -- or it does, and is
  pub rose_more : low ≤ r → r + 1 < n → Rose c n m (r + 1) (i + 1)
  rose_more a b = record {
    counted = h.counted;
    within = omega arith;
    rise = λ j k f g. rises j k f g (dec_lt k i);
    below = λ j g. belows j g (dec_lt j i);
    under = λ j g. unders j g (dec_lt j i);
    last = inr (i, (omega arith, omega arith));
  }
    where
      rises : (j k : ℕ) → j < k → k < i + 1 → Dec (k < i) → row_for c j < row_for c k
      rises j k f g (yes d) = h.rise j k f d
      rises j k f g (no d) = let z : k ≡ i = omega arith in rw z (omega (arith, h.under j (omega arith)))

      belows : (j : ℕ) → j < i + 1 → Dec (j < i) → row_for c j + 1 < n
      belows j g (yes d) = h.below j d
      belows j g (no d) = let z : j ≡ i = omega arith in rw z (omega arith)

      unders : (j : ℕ) → j < i + 1 → Dec (j < i) → row_for c j < r + 1
      unders j g (yes d) = omega (arith, h.under j d)
      unders j g (no d) = let z : j ≡ i = omega arith in rw z (omega arith)

pub rose_all : {c : List ℕ} {n m low i : ℕ} → Rose c n m low i → m ≤ i → RowsRise n c
rose_all h l =
    record {
      rise = λ j k f a. h.rise j k f (omega (arith, h.counted.all k a));
      below = λ j a. h.below j (omega (arith, h.counted.all j a));
    }
