-- Copying heads into the lent list.
use Rattle.std.specs.Prelude.{ℕ, ◌<◌, ◌≡◌, List, length}
use Rattle.arrays.specs.At.{at}

-- the list holds the first of what the array holds, as many as it is long
pub record HeadsCopied (head before list : List ℕ) : Type 0 where
  pub long : length list ≡ length before
  pub each : (i : ℕ) → i < length before → at list i ≡ at head i
