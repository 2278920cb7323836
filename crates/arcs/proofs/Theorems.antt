-- What 27, 28 and the table made come to, in the document's words: each refusal exactly, one table, a table for any
-- number of arcs, its size, and a row for each branch and no two of one.
use Prim.Native.Nat.{ℕ, ◌+◌, ◌*◌, ◌<◌}
use mathlib.Core.Path.{◌≡◌, refl, sym, ap, ◌∙◌}
use mathlib.Core.List.{List, ◌++◌}
use native.Mathlib.Omega.{arith}
use lib.ListN.{length, length-append}
use Rattle.arrays.specs.At.{at}
use Rattle.table.specs.Refuse.{Only}
use Rattle.roads.specs.Text.{Said}
use Rattle.arcs.specs.Arcs.{Arcs, arcs_of, Faulty, Paired, AlongBranch, SameBranches, Differ}
use Rattle.arcs.specs.Made.{Firsts, RowFields, BranchRows, rows_bytes, header_bytes, TableOf}
use Rattle.arcs.proofs.Search.{faulty_not, not_faulty, differ_not, not_differ}
use Rattle.arcs.proofs.Halves.{half, firsts_only, firsts_exist}
use Rattle.arcs.proofs.FirstArcs.{firsts_each, firsts_one}
use Rattle.arcs.proofs.Branches.{branch_rows_only, branch_rows_exist, branch_rows_long}
use Rattle.arcs.proofs.RowBytes.{rows_size, header_size}

-- 27 exactly: the good condition fails exactly if an arc is given twice, goes from a node to itself or has no equal
-- opposite
pub twenty_seven : (A : Arcs) → (¬ Paired A → Faulty A) × (Faulty A → ¬ Paired A)
twenty_seven A = (not_faulty A, faulty_not A)

-- 28 exactly: some branch is named by one text alone
pub twenty_eight : (A B : Arcs) → (¬ SameBranches A B → Differ A B) × (Differ A B → ¬ SameBranches A B)
twenty_eight A B = (not_differ A B, differ_not A B)

module _ {L M : Arcs} {js : List ℕ} {fs : List RowFields} (f : Firsts L L.count js) (b : BranchRows L M js fs) where
  -- as many rows as half the arcs
  pub rows_half : Paired L → L.count ≡ 2 * length fs
  rows_half p = omega (arith, half L p f, branch_rows_long b)

  -- a row for each branch, and no two of one branch
  pub row_each : (i : ℕ) → i < L.count
      → (r : ℕ) × (r < length fs) × AlongBranch L (at js r) (L.from i) (L.to i)
  row_each i h = let t = firsts_each L f i h in (t.0, omega (arith, t.1, branch_rows_long b), t.2)

  pub row_one : (r s : ℕ) → r < length fs → s < length fs
      → AlongBranch L (at js s) (L.from (at js r)) (L.to (at js r)) → r ≡ s
  row_one r s h k =
      firsts_one L f r s (omega (arith, branch_rows_long b)) (omega (arith, branch_rows_long b))

module _ {a b : Said} {bound : ℕ} where
  -- one table
  pub table_only : Paired (arcs_of b.arcs) → Only (TableOf a b bound)
  table_only p x y t u =
      let e = firsts_only (arcs_of a.arcs) u.order t.order in
      let f = branch_rows_only p t.each (rw (e) at u.each) in
      t.is ∙ ap (λ (r : List RowFields). header_bytes a.nodes bound ++ rows_bytes r) f ∙ sym u.is

  pub table_exists : SameBranches (arcs_of a.arcs) (arcs_of b.arcs) → (t : List ℕ) × TableOf a b bound t
  unfolding arcs_of
  table_exists s =
      let f = firsts_exist (arcs_of a.arcs) (length a.arcs) in
      let r = branch_rows_exist s f.1 in (
        header_bytes a.nodes bound ++ rows_bytes r.0,
        record { firsts = f.0; order = f.1; rows = r.0; each = r.1; is = refl },
      )

  -- its size: 12 bytes, and 12 for every two arcs
  pub table_size : Paired (arcs_of a.arcs) → {t : List ℕ} → TableOf a b bound t → length t ≡ 12 + 6 * length a.arcs
  unfolding arcs_of
  table_size p x =
      let h = rows_half x.order x.each p in
      let s = header_size a.nodes bound in
      omega (
        arith,
        ap length x.is,
        length-append (header_bytes a.nodes bound) (rows_bytes x.rows),
        s,
        rows_size x.rows,
        h,
      )
