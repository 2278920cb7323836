-- The rows in turn, up to the first that does not belong.
use Prim.Native.Nat.{ℕ, ◌+◌, ◌≤◌, ◌<◌}
use mathlib.Core.Path.{◌≡◌}
use mathlib.Core.Bool.{Bool, true, false}
use mathlib.Core.List.{List}
use native.Mathlib.Omega.{arith}
use native.Mathlib.Decide.{ℕ_discrete}
use Rattle.limits.specs.work.Fits.{Decides}
use Rattle.pages.specs.Listing.{Entry}
use Rattle.vetting.specs.work.Foreign.{Belongs, FirstForeign}

-- the first i of m rows belong
pub record AllBelong (P : Entry → Type 0) (s : List ℕ) (m i : ℕ) : Type 0 where
  pub within : i ≤ m
  pub belong : (j : ℕ) → j < i → Belongs P s j

pub rows_start : {P : Entry → Type 0} {s : List ℕ} {m : ℕ} → AllBelong P s m 0
rows_start = record { within = omega arith; belong = λ j h. absurd (omega arith) }

module _ {P : Entry → Type 0} {s : List ℕ} {m i : ℕ} (A : AllBelong P s m i) where
  pub rows_next : {r : Bool} → i < m → r ≡ true → Decides (Belongs P s i) r → AllBelong P s m (i + 1)
  rows_next h e d = record { within = omega arith; belong = λ j l. pick j l (ℕ_discrete j i) }
    where
      pick : (j : ℕ) → j < i + 1 → Dec (j ≡ i) → Belongs P s j
      pick j l (yes q) = rw q (d.holds e)
      pick j l (no q) = A.belong j (omega arith)

  pub rows_found : {r : Bool} → r ≡ false → Decides (Belongs P s i) r → FirstForeign P s m i
  rows_found e d = record { within = A.within; belong = A.belong; foreign = λ h. d.fails e }

  pub rows_end : m ≤ i → FirstForeign P s m m
  rows_end h =
      record { within = omega arith; belong = λ j l. A.belong j (omega arith); foreign = λ l. absurd (omega arith) }
