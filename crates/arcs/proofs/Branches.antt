-- The rows of first arcs: there is one list of them where the weight text is paired, for then a branch has one weight;
-- and there is such a list where the two texts name the same branches, for any number of arcs.
use Prim.Native.Nat.{ℕ, zero, suc, ◌-◌, ◌<◌}
use mathlib.Core.Path.{◌≡◌, refl, sym, ap, ◌∙◌}
use mathlib.Core.Logic.{inl, inr}
use mathlib.Core.List.{List, [], ◌∷◌, ◌++◌}
use native.Mathlib.Omega.{arith}
use lib.ListN.{length, get_or}
use Rattle.arrays.specs.At.{at}
use Rattle.arcs.specs.Arcs.{Arcs, Paired, AlongBranch, SameBranches}
use Rattle.arcs.specs.Made.{Firsts, RowFields, BranchRow, BranchRows, none, more}
use Rattle.arcs.proofs.FirstArcs.{firsts_below}

-- a branch has one weight
branch_weight : (M : Arcs) → Paired M → (a b i j : ℕ) → i < M.count → j < M.count → AlongBranch M i a b
    → AlongBranch M j a b → M.number i ≡ M.number j
branch_weight M p a b i j h k x y = pick x y
  where
    same : M.from i ≡ M.from j → M.to i ≡ M.to j → M.number i ≡ M.number j
    same d e = ap M.number (p.once i j h k d e)

    turned : M.from i ≡ M.to j → M.to i ≡ M.from j → M.number i ≡ M.number j
    turned d e =
        let o = p.opposite j k in
        ap M.number (p.once i o.0 h o.1.within (d ∙ sym o.1.leaves) (e ∙ sym o.1.leads))
        ∙ o.1.equal

    pick : AlongBranch M i a b → AlongBranch M j a b → M.number i ≡ M.number j
    pick (inl d) (inl e) = same (d.0 ∙ sym e.0) (d.1 ∙ sym e.1)
    pick (inr d) (inr e) = same (d.0 ∙ sym e.0) (d.1 ∙ sym e.1)
    pick (inl d) (inr e) = turned (d.0 ∙ sym e.1) (d.1 ∙ sym e.0)
    pick (inr d) (inl e) = turned (d.0 ∙ sym e.1) (d.1 ∙ sym e.0)

module _ {L M : Arcs} where
  branch_row_only : Paired M → {j : ℕ} {f g : RowFields} → BranchRow L M j f → BranchRow L M j g → f ≡ g
  branch_row_only p {j} {f} {g} x y = λ i. record { a = first i; b = second i; length = long i; weight = heavy i }
    where
      first : f.a ≡ g.a
      first = x.first ∙ sym y.first

      second : f.b ≡ g.b
      second = x.second ∙ sym y.second

      long : f.length ≡ g.length
      long = x.long ∙ sym y.long

      heavy : f.weight ≡ g.weight
      heavy =
          x.heavy
          ∙ branch_weight M p (L.from j) (L.to j) x.arc y.arc x.within y.within x.along y.along
          ∙ sym y.heavy

  pub branch_rows_only : Paired M → {js : List ℕ} {fs gs : List RowFields} → BranchRows L M js fs
      → BranchRows L M js gs → fs ≡ gs
  branch_rows_only p none none = refl
  branch_rows_only p (more r b) (more q c) =
      let e = branch_row_only p r q in
      let f = branch_rows_only p b c in
      cc

  branch_row_exists : SameBranches L M → (j : ℕ) → j < L.count → (f : RowFields) × BranchRow L M j f
  branch_row_exists s j h =
      let n = s.there (L.from j) (L.to j) (record { arc = j; within = h; along = inl (refl, refl) }) in (
        record { a = L.from j - 1; b = L.to j - 1; length = L.number j; weight = M.number n.arc },
        record {
          first = refl;
          second = refl;
          long = refl;
          arc = n.arc;
          within = n.within;
          along = n.along;
          heavy = refl;
        },
      )

  rows_exist : SameBranches L M → (js : List ℕ) → ((r : ℕ) → r < length js → at js r < L.count)
      → (fs : List RowFields) × BranchRows L M js fs
  rows_exist s [] h = ([], none)
  rows_exist s (j ∷ js) h =
      let r = branch_row_exists s j (h 0 (omega arith)) in
      let t = rows_exist s js (λ r b. h (suc r) (omega arith)) in
      (r.0 ∷ t.0, more r.1 t.1)

  pub branch_rows_exist : SameBranches L M → {js : List ℕ} → Firsts L L.count js
      → (fs : List RowFields) × BranchRows L M js fs
  branch_rows_exist s {js} f = rows_exist s js (λ r h. firsts_below L f r h)

  pub branch_rows_long : {js : List ℕ} {fs : List RowFields} → BranchRows L M js fs → length js ≡ length fs
  branch_rows_long none = refl
  branch_rows_long (more q b) = ap suc (branch_rows_long b)

  -- a row more at the end
  pub branch_rows_snoc : {js : List ℕ} {fs : List RowFields} {j : ℕ} {f : RowFields} → BranchRows L M js fs
      → BranchRow L M j f → BranchRows L M (js ++ j ∷ []) (fs ++ f ∷ [])
  branch_rows_snoc none r = more r none
  branch_rows_snoc (more q b) r = more q (branch_rows_snoc b r)

  -- row r is that of first arc r
  pub branch_row_at : (d : RowFields) {js : List ℕ} {fs : List RowFields} → BranchRows L M js fs → (r : ℕ)
      → r < length fs → BranchRow L M (at js r) (get_or fs r d)
  branch_row_at d none r h = absurd (omega arith)
  branch_row_at d (more q b) zero h = q
  branch_row_at d (more q b) (suc r) h = branch_row_at d b r (omega arith)
