-- Pairs as bits. The n nodes have their pairs in lines of n bits: a first node of the lower half has the line of its
-- own number, and a second node the column of its own; of the upper half both are counted from the other end. So each
-- line serves two first nodes, of the one the columns lie above the line's own number, of the other below it, and few
-- bits stay unused. A block is a stretch of lines: as many as the set of bits has room for.
use Rattle.std.specs.Prelude.{ℕ, ◌+◌, ◌-◌, ◌*◌, ◌≤◌, ◌<◌, ◌≡◌, Bool, true, List}
use Rattle.vetting.specs.work.Bits.{PutIn}

-- the line of first node a, and the column of b beside it
pub record Line (n a t : ℕ) : Type 0 where
  pub lower : 2 * a < n → t ≡ a
  pub upper : n ≤ 2 * a → t + a + 1 ≡ n

pub record Column (n a b c : ℕ) : Type 0 where
  pub lower : 2 * a < n → c ≡ b
  pub upper : n ≤ 2 * a → c + b + 1 ≡ n

-- first node a has one of the lines from `from` to below `end`
pub record InBlock (n from end a : ℕ) : Type 0 where
  pub line : ℕ
  pub is : Line n a line
  pub since : from ≤ line
  pub before : line < end

-- first node a's line comes before line `from`
abbrev pub LineDone : ℕ → ℕ → ℕ → Type 0
LineDone n from a = (t : ℕ) → Line n a t → t < from

-- p is the bit of the pair a, b in a block that begins with line `from`
pub record Slot (n from a b p : ℕ) : Type 0 where
  pub line : ℕ
  pub column : ℕ
  pub line_is : Line n a line
  pub column_is : Column n a b column
  pub since : from ≤ line
  pub is : p ≡ n * (line - from) + column

-- a block that the set of bits has room for
pub record Block (n from end : ℕ) : Type 0 where
  pub nodes : n ≤ 4096
  pub rises : from ≤ end
  pub room : n * (end - from) ≤ 1048576

-- what is asked of a first node of the block: t is its line, and the set has room for that line
pub record LineAsked (n from t a : ℕ) : Type 0 where
  pub nodes : n ≤ 4096
  pub node : a < n
  pub line : Line n a t
  pub since : from ≤ t
  pub room : n * (t - from) + n ≤ 1048576

-- and for the bit of a pair of it
pub record SlotAsked (n from t a b : ℕ) : Type 0 where
  pub asked : LineAsked n from t a
  pub pair : a < b
  pub node : b < n

-- the pair a, b was put into the set of a block, where it is one of it; r is false exactly where it was there before
pub record Admitted (n from end a b : ℕ) (old : List ℕ) (r : Bool) (now : List ℕ) : Type 0 where
  pub outside : ¬ InBlock n from end a → (r ≡ true) × (now ≡ old)
  pub inside : InBlock n from end a → (p : ℕ) × Slot n from a b p × PutIn old p r now
