-- Rows that can be read as those of n nodes can be read as those of 256, and so can fewer of them.
use Prim.Native.Nat.{ℕ, ◌≤◌}
use mathlib.Core.List.{List}
use native.Mathlib.Omega.{arith}
use Rattle.mesh.specs.work.Rows.{EndsApart, MeshReadable}

pub rows_wide : {u v : ℕ → ℕ} {k : ℕ} {n : ℕ} → EndsApart u v k n → n ≤ 256 → EndsApart u v k 256
rows_wide R l =
    record {
      first = λ r h. omega (arith, R.first r h);
      second = λ r h. omega (arith, R.second r h);
      apart = R.apart;
    }

pub wide_readable : {s : List ℕ} {k n : ℕ} → MeshReadable s k n → MeshReadable s k 256
wide_readable h = record { stands = h.stands; rows = rows_wide h.rows h.few; few = omega arith }

pub less_readable : {s : List ℕ} {k m n : ℕ} → m ≤ k → MeshReadable s k n → MeshReadable s m n
less_readable l h =
    record {
      stands = λ r b. h.stands r (omega arith);
      rows =
          record {
            first = λ r b. h.rows.first r (omega arith);
            second = λ r b. h.rows.second r (omega arith);
            apart = λ r b. h.rows.apart r (omega arith);
          };
      few = h.few;
    }
