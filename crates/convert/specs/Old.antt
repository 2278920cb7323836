-- What a mark said before its top bit said spent: 0 free, 1 to 65,534 held by that run, 65,535 spent, by whom it did
-- not say. And what it reads as when its number stays.
use Rattle.std.specs.Prelude.{◌≡◌, ℕ, ◌<◌}
use Rattle.marks.specs.Mark.{free, unknown, Free, HeldBy, SpentBy, RunNumber}

abbrev pub WasFree : ℕ → Type 0
WasFree m = m ≡ free

pub record WasHeldBy (run m : ℕ) : Type 0 where
  pub is : m ≡ run
  pub above : free < run
  pub below : run < 65535

abbrev pub WasSpent : ℕ → Type 0
WasSpent m = m ≡ 65535

-- as it did: free, held by the same run, or spent, the run being unknown
pub data ReadsOn (m : ℕ) : Type 0 where
  still_free : WasFree m → Free m → ReadsOn m
  still_held : (run : ℕ) → WasHeldBy run m → HeldBy run m → RunNumber run → ReadsOn m
  still_spent : WasSpent m → SpentBy unknown m → ReadsOn m
