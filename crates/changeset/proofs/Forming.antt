-- A set whose letters, version and sort are right is formed exactly if its size is.
use Prim.Native.Nat.{◌-◌, ◌/◌, ◌%◌, ◌≤◌}
use mathlib.Core.Path.{◌≡◌}
use mathlib.Core.List.{List}
use Prim.Native.Nat.{ℕ}
use native.Mathlib.Omega.{arith}
use borrow.Author.Tests.{eqb-true, eqb-false}
use lib.Dec.{eqb}
use lib.ListN.{length}
use Rattle.table.specs.Header.{version_of}
use Rattle.table.specs.Bytes.{byte_at}
use Rattle.limits.specs.work.Fits.{Decides}
use Rattle.changeset.specs.Entries.{Formed}

pub formed_is : (c : List ℕ) → 6 ≤ length c → byte_at c 0 ≡ 82 → byte_at c 1 ≡ 84 → byte_at c 2 ≡ 78
    → version_of c ≡ 1 → byte_at c 5 ≡ 1 → Decides (Formed c) (eqb ((length c - 6) % 14) 0)
formed_is c l r t n v s = record {
  holds = λ e.
      record {
        letters = (r, t, n);
        version = v;
        sort = s;
        entries = (length c - 6) / 14;
        size = omega (arith, eqb-true ((length c - 6) % 14) 0 e);
      };
  fails = λ e f. eqb-false ((length c - 6) % 14) 0 e (omega (arith, f.size));
}
