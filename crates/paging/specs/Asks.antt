-- A caller that asks for one list, call after call, of any operation that lists.
use Rattle.std.specs.Prelude.{ℕ, ◌+◌, ◌-◌, ◌*◌, ◌≤◌, ◌<◌, List, [], ◌∷◌, ◌++◌, length, take}
use Rattle.table.specs.Bytes.{u16_at}
use Rattle.paging.specs.Paging.{Listed, listed}

-- the two nodes of the last of the rows that a call wrote into lent bytes
abbrev pub last_low : ℕ → List ℕ → ℕ
last_low written bytes = u16_at bytes (16 * (written - 1))

abbrev pub last_high : ℕ → List ℕ → ℕ
last_high written bytes = u16_at bytes (16 * (written - 1) + 2)

-- calls from (low, high) on until none is left, none of them refused, each lending 16 bytes or more (not always as
-- many), each going on after the last row given; joined is all the bytes that they wrote. Call is what the operation
-- promises of a call: its starting pair, the lent bytes, and the outcome
pub data Asks (Call : ℕ → ℕ → List ℕ → Listed × List ℕ → Type 0) : (low high : ℕ) (joined : List ℕ) → Type 0 where
  last : {low high written : ℕ} {old bytes : List ℕ} → 16 ≤ length old → Call low high old (listed written 0, bytes)
      → Asks Call low high (take (16 * written) bytes)
  next : {low high written left : ℕ} {old bytes later : List ℕ} → 16 ≤ length old
      → Call low high old (listed written left, bytes) → 0 < left
      → Asks Call (last_low written bytes) (last_high written bytes) later
      → Asks Call low high (take (16 * written) bytes ++ later)

-- the pages of these calls, the bytes that each wrote
abbrev pub pages_of : {Call : ℕ → ℕ → List ℕ → Listed × List ℕ → Type 0} {low high : ℕ} {joined : List ℕ}
    → Asks Call low high joined → List (List ℕ)
pages_of (last {written = w} {bytes = b} h p) = take (16 * w) b ∷ []
pages_of (next {written = w} {bytes = b} h p l r) = take (16 * w) b ∷ pages_of r
