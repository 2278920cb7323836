-- Leaves below each node, by the sweep backward: leaves count, so a node to which no child gave a leaf is one.
use Prim.Native.Nat.{ℕ, ◌≤◌, ◌<◌}
use mathlib.Core.Path.{◌≡◌, sym, ap}
use mathlib.Core.Logic.{◌≢◌}
use mathlib.Core.List.{List}
use native.Mathlib.Omega.{arith}
use native.Mathlib.Decide.{ℕ_discrete}
use Rattle.arrays.specs.At.{at}
use Rattle.arrays.specs.Members.{In}
use Rattle.net.specs.Count.{Count}
use Rattle.net.specs.work.Rooted.{Above, self}
use Rattle.reach.specs.work.Grown.{Grown}
use Rattle.net.proofs.Counts.{count_unique, count_same, count_none, count_one, count_some, count_dec}
use Rattle.net.proofs.Above.{Tree, place_up}
use Rattle.reach.proofs.Grown.{grown_tree}
use Rattle.spines.specs.Spine.{Leaf}
use Rattle.spines.specs.work.Parents.{Child}
use Rattle.spines.specs.work.Sweeps.{Among, Owns, Sums, LeavesAll}
use Rattle.spines.proofs.Below.{leaf_above, leaf_under, via, child_later, child_below}
use Rattle.spines.proofs.Leaves.{leaf?, leaf_some}

pub leaf_count : (n : ℕ) (par : ℕ → ℕ) → (k : ℕ) × Count (λ x. (x < n) × Leaf (Child n par) n x) k
leaf_count n par = count_dec n leaf?

-- the leaves
abbrev pub leaves : ℕ → (ℕ → ℕ) → List ℕ
leaves n par = (leaf_count n par).1.list

leaf_in : {n : ℕ} {par : ℕ → ℕ} (x : ℕ) → Leaf (Child n par) n x → In x (leaves n par)
leaf_in {n} {par} x l = (leaf_count n par).1.all x (l.fits, l)

in_leaf : {n : ℕ} {par : ℕ → ℕ} (x : ℕ) → In x (leaves n par) → Leaf (Child n par) n x
in_leaf {n} {par} x i = ((leaf_count n par).1.only x i).1

module _ {n : ℕ} {parent order place : List ℕ} (g : Grown n parent order place) where
  abbrev L : List ℕ
  L = leaves n (at parent)

  abbrev B : ℕ → ℕ → Type 0
  B = Among L (at parent)

  T : Tree n (at parent) (at place)
  T = grown_tree g

  module _ (v x w : ℕ) (b : v < n) (rest : Count (λ y. B v y × (y ≢ v)) x) (one : x ≡ 0 → w ≡ 1)
      (same : x ≢ 0 → w ≡ x) where
    later : (y c : ℕ) → Child n (at parent) v c → y < n → Above (at parent) c y → y ≢ v
    later y c k l h q = omega (arith, child_later T k, place_up T l h, ap (at place) q)

    some : (c : ℕ) → Child n (at parent) v c → 0 < x
    some c k =
        let t = leaf_some T n c k.fits (omega arith) in
        count_some t.0 (
          record { is = leaf_in t.0 t.1.leaf; below = child_below T k (leaf_above t.1) },
          later t.0 c k t.1.leaf.fits (leaf_above t.1),
        ) rest

    own : Count (B v) w
    own = pick (ℕ_discrete x 0)
      where
        pick : Dec (x ≡ 0) → Count (B v) w
        pick (yes z) =
            rw (one z)
            (count_one v (record {
              is = leaf_in v (record { fits = b; none = λ c k. omega (arith, some c k) });
              below = self;
            })
            (λ y h. only y h (ℕ_discrete y v)))
          where
            only : (y : ℕ) → B v y → Dec (y ≡ v) → y ≡ v
            only y h (yes q) = q
            only y h (no m) = absurd (omega (arith, count_some y (h, m) rest))
        pick (no m) = rw (same m) (count_same (λ y h. h.0) (λ y h. (h, λ q. inner (rw q at h.is))) rest)
          where
            inner : In v L → ⊥
            inner i =
                m
                (count_unique rest
                (count_none
                (λ y p. let t = via T (in_leaf y p.0.is).fits p.0.below (λ q. p.1 (sym q)) in
                (in_leaf v i).none t.0 t.1)))

  pub leaf_owns : {pre : ℕ → Type 0} {post : ℕ → ℕ → Type 0} → ((x : ℕ) → x ≤ n → pre x)
      → ((w : ℕ) → post 0 w → w ≡ 1) → ((x w : ℕ) → x ≢ 0 → post x w → w ≡ x) → Owns L n parent pre post
  leaf_owns can one same =
      record {
        fits = λ x i. (in_leaf x i).fits;
        can = can;
        own = λ v x w b c e. own v x w b c (λ z. one w (rw z at e)) (λ m. same x w m e);
      }

  pub leaves_all : {sum : List ℕ} → Sums L n parent sum → LeavesAll n parent sum
  leaves_all s =
      record {
        long = s.long;
        each = λ t b. count_same (λ x h. leaf_under T (in_leaf x h.is) h.below)
            (λ x h. record { is = leaf_in x h.leaf; below = leaf_above h }) (s.each t b);
      }
