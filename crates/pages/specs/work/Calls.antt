-- Calls one after the other, over lent bytes.
use Rattle.std.specs.Prelude.{ℕ, ◌+◌, ◌-◌, ◌*◌, ◌≤◌, ◌<◌, List, ◌++◌, length}
use Rattle.table.specs.Bytes.{u16_at}
use Rattle.pages.specs.Listing.{Entry}
use Rattle.pages.specs.Paged.{Paged}

-- calls from the start (s, t) on until none is left, each lending 16 bytes or more and starting from the two nodes read
-- out of the last row written; joined is all that they gave
pub data Calls (P : Entry → Type 0) : (s t : ℕ) (joined : List Entry) → Type 0 where
  done : {s t given : ℕ} {old now : List ℕ} → 16 ≤ length old → (c : Paged P s t old given 0 now)
      → Calls P s t c.some
  again : {s t given left : ℕ} {old now : List ℕ} {later : List Entry} → 16 ≤ length old
      → (c : Paged P s t old given left now) → 0 < left
      → Calls P (u16_at now (16 * (given - 1))) (u16_at now (16 * (given - 1) + 2)) later → Calls P s t
      (c.some ++ later)
