-- Arrays just made have their 4,096 places, and may be lent.
use Prim.Native.Nat.{ℕ}
use lib.ListN.{replicate, length-replicate}
use Rattle.paths.specs.work.Paths.{ArraysLent}

pub fresh : ArraysLent (replicate {A = ℕ} 4096 0) (replicate {A = ℕ} 4096 0) (replicate {A = ℕ} 4096 0)
fresh =
    record {
      flags = length-replicate {A = ℕ} 4096 0;
      lengths = length-replicate {A = ℕ} 4096 0;
      weights = length-replicate {A = ℕ} 4096 0;
    }
