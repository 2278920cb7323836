-- The rows of a list by the pairs that they name: those of one block in a set, and the first that names a pair once
-- more.
use Rattle.std.specs.Prelude.{ℕ, ◌+◌, ◌*◌, ◌≤◌, ◌<◌, ◌≡◌, List, length}
use Rattle.table.specs.Bytes.{u16_at}
use Rattle.vetting.specs.work.Bits.{Has}
use Rattle.vetting.specs.work.Lines.{InBlock, Slot, Block}

-- the two nodes of row i
abbrev pub low_of : List ℕ → ℕ → ℕ
low_of s i = u16_at s (16 * i)

abbrev pub high_of : List ℕ → ℕ → ℕ
high_of s i = u16_at s (16 * i + 2)

-- one of the first m rows names the pair a, b
pub record Named (s : List ℕ) (m a b : ℕ) : Type 0 where
  pub place : ℕ
  pub within : place < m
  pub first : low_of s place ≡ a
  pub second : high_of s place ≡ b

-- the first r rows each name two of the n nodes, lower first
pub record NamePairs (s : List ℕ) (n r : ℕ) : Type 0 where
  pub long : 16 * r ≤ length s
  pub pair : (i : ℕ) → i < r → low_of s i < high_of s i
  pub node : (i : ℕ) → i < r → high_of s i < n

-- of the first i rows those of the block name each a pair of their own, and the set has exactly these
pub record Unrepeated (s : List ℕ) (n from end i : ℕ) (bits : List ℕ) : Type 0 where
  pub long : length bits ≡ 16384
  pub fresh : (k : ℕ) → k < i → InBlock n from end (low_of s k) → ¬ Named s k (low_of s k) (high_of s k)
  pub has : (k : ℕ) → k < i → InBlock n from end (low_of s k) → (p : ℕ) → Slot n from (low_of s k) (high_of s k) p
      → Has bits p
  pub only : (p : ℕ) → Has bits p
      → (k : ℕ) × (k < i) × InBlock n from end (low_of s k) × Slot n from (low_of s k) (high_of s k) p

-- r rows passed up to the first that names a pair of the block once more, if there is one
pub record Repeats (s : List ℕ) (n from end r x : ℕ) (bits : List ℕ) : Type 0 where
  pub within : x ≤ r
  pub seen : Unrepeated s n from end x bits
  pub again : x < r → Named s x (low_of s x) (high_of s x)

-- what the pass asks
pub record Repeatable (s : List ℕ) (n from end r : ℕ) : Type 0 where
  pub block : Block n from end
  pub named : NamePairs s n r
