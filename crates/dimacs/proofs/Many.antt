-- A table of more than 4,095 rows is refused by its node count, 4, or else by its size, 6: its header is a good one,
-- and no node count from 1 to 4,096 fits its size.
use Prim.Native.Nat.{ℕ, ◌+◌, ◌*◌, ◌≤◌, ◌<◌}
use mathlib.Core.Path.{◌≡◌}
use mathlib.Core.Logic.{inl}
use mathlib.Core.List.{List, ◌++◌}
use native.Mathlib.Omega.{arith}
use native.Mathlib.Decide.{dec_lt}
use lib.ListN.{length, length-append}
use Rattle.table.specs.Refuse.{Unless, refused, passed}
use Rattle.table.specs.Bytes.{byte_at}
use Rattle.table.specs.Header.{nodes_of}
use Rattle.tree.specs.Accept.{Begins}
use Rattle.arcs.specs.Made.{header_bytes}
use Rattle.arcs.proofs.RowBytes.{header_size}
use Rattle.dimacs.proofs.Headers.{header_lettered, header_version, header_reserved, header_nodes}

table_size : (n bound : ℕ) (r : List ℕ) → length (header_bytes n bound ++ r) ≡ 12 + length r
table_size n bound r = omega (arith, length-append (header_bytes n bound) r, header_size n bound)

-- which of the two, as it is decided
decided : {A : Type 0} (refuse : ℕ → ℕ → ℕ → A) {rest : A → Type 0} (t : List ℕ) (n k : ℕ) → nodes_of t ≡ n
    → byte_at t 7 ≡ 0 → 49152 < length t → ((1 ≤ n) × (n ≤ 4096) → k ≡ 6) → (((1 ≤ n) × (n ≤ 4096) → ⊥) → k ≡ 4)
    → Unless A (refuse 4 0 0) ((1 ≤ nodes_of t) × (nodes_of t ≤ 4096))
    (Unless A (refuse 5 0 0) (byte_at t 7 ≡ 0) (Unless A (refuse 6 0 0) (length t ≡ 12 * nodes_of t) rest))
    (refuse k 0 0)
decided {A} refuse {rest} t n k e z long six four = pick (dec_lt n 1) (dec_lt 4096 n)
  where
    pick : Dec (n < 1) → Dec (4096 < n) → Unless A (refuse 4 0 0) ((1 ≤ nodes_of t) × (nodes_of t ≤ 4096))
        (Unless A (refuse 5 0 0) (byte_at t 7 ≡ 0) (Unless A (refuse 6 0 0) (length t ≡ 12 * nodes_of t) rest))
        (refuse k 0 0)
    pick (yes l) d = rw (four (λ g. omega (arith, g.0, l))) (refused (λ g. omega (arith, g.0, e)))
    pick (no l) (yes g) = rw (four (λ q. omega (arith, q.1, g))) (refused (λ q. omega (arith, q.1, e)))
    pick (no l) (no g) =
        rw (six (omega arith, omega arith))
        (passed (omega (arith, e), omega (arith, e)) (passed z (refused (λ q. omega (arith, q, e)))))

pub many_refused : {A : Type 0} (refuse : ℕ → ℕ → ℕ → A) {rest : A → Type 0} (n bound : ℕ) (r : List ℕ) (k : ℕ)
    → n < 65536 → 49140 < length r → ((1 ≤ n) × (n ≤ 4096) → k ≡ 6) → (((1 ≤ n) × (n ≤ 4096) → ⊥) → k ≡ 4)
    → Begins A refuse (header_bytes n bound ++ r) rest (refuse k 0 0)
many_refused refuse n bound r k few long six four =
    let size = table_size n bound r in
    passed (omega (arith, size))
    (passed (header_lettered n bound r)
    (passed (inl (header_version n bound r))
    (decided refuse (header_bytes n bound ++ r) n k (header_nodes n bound r few) (header_reserved n bound r)
    (omega (arith, size)) six four)))
