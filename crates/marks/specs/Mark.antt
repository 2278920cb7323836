-- One 16-bit number for each branch, in row order. Its top bit says spent, the other fifteen bits keep the run: 0 is
-- free; below 32,768 a branch is held, unspent, by that run; from 32,768 on it is spent by the run in the other fifteen
-- bits. `weighs`, specs/Weighs, asks of a mark only whether it is 0.
use Rattle.std.specs.Prelude.{◌≡◌, ℕ, ◌+◌, ◌%◌, ◌≤◌, ◌<◌}

abbrev pub free : ℕ
free = 0

-- what the top bit counts
abbrev pub top : ℕ
top = 32768

-- the run that a mark keeps, held or spent: the other fifteen bits
abbrev pub run_of : ℕ → ℕ
run_of m = m % top

-- a mark with its top bit set
abbrev pub spend : ℕ → ℕ
spend m = top + run_of m

abbrev pub Free : ℕ → Type 0
Free m = m ≡ free

-- held, unspent, by the run
pub record HeldBy (run m : ℕ) : Type 0 where
  pub marked : free < m
  pub unspent : m < top
  pub keeps : run_of m ≡ run

pub record SpentBy (run m : ℕ) : Type 0 where
  pub spent : top ≤ m
  pub keeps : run_of m ≡ run

-- the sign for "unknown": what an old set of marks has as spent reads as spent by it
abbrev pub unknown : ℕ
unknown = 32767

-- a run's own number: 1 to 32,766
pub record RunNumber (run : ℕ) : Type 0 where
  pub above : free < run
  pub below : run < unknown
