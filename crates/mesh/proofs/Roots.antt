-- Over all roots: 37 and 38 in order, and of the roots' numbers the greatest, with the ends of the first path that has
-- it: the first root that gives it, and that root's first end.
use Prim.Native.Nat.{ℕ, ◌+◌, ◌≤◌, ◌<◌}
use mathlib.Core.Path.{◌≡◌, refl, sym}
use mathlib.Core.Logic.{◌⊎◌, inl, inr}
use mathlib.Core.List.{List, []}
use native.Mathlib.Omega.{arith}
use native.Mathlib.Decide.{ℕ_discrete}
use Rattle.arrays.proofs.Members.{not_nil}
use Rattle.table.specs.Refuse.{refused, passed}
use Rattle.net.specs.Graph.{stop}
use Rattle.net.proofs.Joined.{joined_mono}
use Rattle.mesh.specs.Mesh.{Connected, OneRing, PathWith, Longest}
use Rattle.mesh.specs.Answer.{mesh_refusal, MeshJoined, most}
use Rattle.mesh.specs.work.Hung.{HungAt}
use Rattle.mesh.specs.work.Roots.{FromRoot}
use Rattle.mesh.proofs.Rings.{tree_path, own_low}

module _ {u v : ℕ → ℕ} {k n : ℕ} where
  pub whole : {par order place : List ℕ} → HungAt u v k n 0 par order place → Connected u v k n
  whole h x b =
      let t = tree_path h.tree 0 x h.tree.root b in joined_mono u v (own_low h.tree) (t.0, t.1, t.2)

  pub two_rings_refused : {par order place : List ℕ} → HungAt u v k n 0 par order place → ¬ OneRing u v k
      → MeshJoined u v k n (mesh_refusal 38 0)
  two_rings_refused h m = passed (whole h) (refused m)

-- the roots below a are done
pub record Rooting (u v : ℕ → ℕ) (k n a best low high : ℕ) : Type 0 where
  pub within : a ≤ n
  pub fits : (low < n) × (high < n)
  pub start : a ≡ 0 → (low ≡ 0) × (high ≡ 0)
  pub early : 0 < a → low < a
  pub one : 0 < a → OneRing u v k
  pub some : PathWith u v k low high best
  pub most : (x y m : ℕ) → x < a → PathWith u v k x y m → m ≤ best
  pub first : (x y : ℕ) → x < a → PathWith u v k x y best → (low < x) ⊎ ((low ≡ x) × (high ≤ y))

pub rooting_start : {u v : ℕ → ℕ} {k n : ℕ} → 0 < n → Rooting u v k n 0 0 0 0
rooting_start b =
    record {
      within = omega arith;
      fits = (b, b);
      start = λ e. (refl, refl);
      early = λ h. absurd (omega arith);
      one = λ h. absurd (omega arith);
      some = ([], ([], stop, (not_nil, tt)), refl);
      most = λ x y m h. absurd (omega arith);
      first = λ x y h. absurd (omega arith);
    }

module _ {u v : ℕ → ℕ} {k n a best low high : ℕ} (s : Rooting u v k n a best low high) (b : a < n) {l z : ℕ}
    (f : FromRoot u v k a l z) (c : z < n) where
  from_a : {x y m : ℕ} → x ≡ a → PathWith u v k x y m → PathWith u v k a y m
  from_a e t = rw e at t

  -- no more than before: of equal ones the first stays
  pub rooting_keep : ¬ (best < l) → Rooting u v k n (a + 1) best low high
  rooting_keep q =
      record {
        within = omega arith;
        fits = s.fits;
        start = λ e. absurd (omega arith);
        early = λ h. early (ℕ_discrete a 0);
        one = λ h. f.one;
        some = s.some;
        most = λ x y m h t. most x y m h t (ℕ_discrete x a);
        first = λ x y h t. first x y h t (ℕ_discrete x a) (ℕ_discrete a 0);
      }
    where
      early : Dec (a ≡ 0) → low < a + 1
      early (yes e) = omega (arith, (s.start e).0)
      early (no e) = omega (arith, s.early (omega arith))

      most : (x y m : ℕ) → x < a + 1 → PathWith u v k x y m → Dec (x ≡ a) → m ≤ best
      most x y m h t (yes e) = omega (arith, f.most y m (from_a e t))
      most x y m h t (no e) = s.most x y m (omega arith) t

      first : (x y : ℕ) → x < a + 1 → PathWith u v k x y best → Dec (x ≡ a) → Dec (a ≡ 0)
          → (low < x) ⊎ ((low ≡ x) × (high ≤ y))
      first x y h t (no e) d = s.first x y (omega arith) t
      first x y h t (yes e) (yes d) = let w = s.start d in inr (omega (arith, w.0), omega (arith, w.1))
      first x y h t (yes e) (no d) = inl (omega (arith, s.early (omega arith)))

  -- more than before
  pub rooting_more : best < l → Rooting u v k n (a + 1) l a z
  rooting_more q =
      record {
        within = omega arith;
        fits = (b, c);
        start = λ e. absurd (omega arith);
        early = λ h. omega arith;
        one = λ h. f.one;
        some = f.some;
        most = λ x y m h t. most x y m h t (ℕ_discrete x a);
        first = λ x y h t. first x y h t (ℕ_discrete x a);
      }
    where
      most : (x y m : ℕ) → x < a + 1 → PathWith u v k x y m → Dec (x ≡ a) → m ≤ l
      most x y m h t (yes e) = f.most y m (from_a e t)
      most x y m h t (no e) = omega (arith, s.most x y m (omega arith) t)

      first : (x y : ℕ) → x < a + 1 → PathWith u v k x y l → Dec (x ≡ a) → (a < x) ⊎ ((a ≡ x) × (z ≤ y))
      first x y h t (yes e) = inr (sym e, f.first y (from_a e t))
      first x y h t (no e) = absurd (omega (arith, s.most x y l (omega arith) t))

pub rooting_end : {u v : ℕ → ℕ} {k n a best low high : ℕ} {par order place : List ℕ} → Rooting u v k n a best low high
    → HungAt u v k n 0 par order place → ¬ (a < n) → MeshJoined u v k n (most best low high)
rooting_end {u} {v} {k} {n} {a} {best} {low} {high} s h q = passed (whole h) (passed (s.one some) longest)
  where
    some : 0 < a
    some = omega (arith, h.tree.root)

    longest : Longest u v k n best low high
    longest =
        record {
          within = s.fits.0;
          some = s.some;
          most = λ x y m b t. s.most x y m (omega arith) t;
          first = λ x y b t. s.first x y (omega arith) t;
        }
