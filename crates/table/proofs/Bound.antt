-- B is read by nothing but `bound_of`: of two tables equal but for its bytes the header says the same, every row reads
-- alike, and the table's own tests give one outcome.
use mathlib.Core.Path.{◌≡◌}
use mathlib.Core.Bool.{cond}
use mathlib.Core.Logic.{inl, inr}
use mathlib.Core.List.{List}
use Prim.Native.Nat.{ℕ, ◌+◌, ◌-◌, ◌*◌, ◌≤◌, ◌<◌}
use native.Mathlib.Omega.{arith}
use lib.Dec.{eqb}
use lib.IntN.{pos, ◌*ℤ◌}
use mir.Syntax.{w32}
use mir.Val.{to_z}
use Rattle.table.specs.Bound.{SameButBound}
use Rattle.table.specs.Bytes.{byte_at, u16_at, u32_at}
use Rattle.table.specs.Header.{Header, version_of, nodes_of}
use Rattle.table.specs.Row.{row_at, kind_at, count_at}
use Rattle.table.specs.Scores.{score_of}
use Rattle.table.specs.Examine.{RowNumber, Tested}
use Rattle.table.specs.Refuse.{FirstBad}
use Rattle.table.proofs.Refusals.{first_bad_alike}
use Rattle.table.proofs.Accepted.{header_map}

module _ {s t : List ℕ} (e : SameButBound s t) where
  head : (i : ℕ) → i < 8 → byte_at s i ≡ byte_at t i
  head i h = e.bytes i (inl h)

  later : (i : ℕ) → 12 ≤ i → byte_at s i ≡ byte_at t i
  later i h = e.bytes i (inr h)

  two : (i : ℕ) → 12 ≤ i → u16_at s i ≡ u16_at t i
  two i h = omega (arith, later i h, later (i + 1) (omega arith))

  four : (i : ℕ) → 12 ≤ i → u32_at s i ≡ u32_at t i
  four i h =
      omega (arith, later i h, later (i + 1) (omega arith), later (i + 2) (omega arith), later (i + 3) (omega arith))

  version_same : version_of s ≡ version_of t
  version_same = omega (arith, head 3 (omega arith), head 4 (omega arith))

  pub nodes_same : nodes_of s ≡ nodes_of t
  nodes_same = omega (arith, head 5 (omega arith), head 6 (omega arith))

  kind_same : (r : ℕ) → kind_at s r ≡ kind_at t r
  kind_same r = two (20 + 12 * r) (omega arith)

  count_same : (r : ℕ) → count_at s r ≡ count_at t r
  count_same r = two (22 + 12 * r) (omega arith)

  pub row_same : (r : ℕ) → row_at s r ≡ row_at t r
  row_same r =
      λ i. record {
        a = two (12 + 12 * r) (omega arith) i;
        b = two (14 + 12 * r) (omega arith) i;
        length = four (16 + 12 * r) (omega arith) i;
        weight = cond (eqb (version_same i) 2) (pos (count_same r i) *ℤ score_of (kind_same r i))
            (to_z w32 (four (20 + 12 * r) (omega arith) i));
      }

  number_same : (n r k : ℕ) → RowNumber n s r k → RowNumber n t r k
  number_same n r k p =
      rw (
        two (12 + 12 * r) (omega arith),
        two (14 + 12 * r) (omega arith),
        four (16 + 12 * r) (omega arith),
        four (20 + 12 * r) (omega arith),
        version_same,
        kind_same r,
        count_same r,
      )
      at p

  -- first the rows, then the header's conditions
  pub tested_same : {A : Type 0} (refuse : ℕ → ℕ → A) {rest rest' : A → Type 0} {x : A} → (rest x → rest' x)
      → Tested A refuse s rest x → Tested A refuse t rest' x
  tested_same {A} refuse {rest'} {x} f p =
      headed (header_map (λ o. o) refuse s (λ _. first_bad_alike (number_same (nodes_of s)) f) p)
    where
      headed : Header A refuse s (FirstBad A refuse (nodes_of s - 1) (RowNumber (nodes_of s) t) rest') x
          → Tested A refuse t rest' x
      headed q =
          rw (
            e.size,
            head 0 (omega arith),
            head 1 (omega arith),
            head 2 (omega arith),
            version_same,
            nodes_same,
            head 7 (omega arith),
          )
          at q
