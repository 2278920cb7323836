-- Nodes below each node, by the sweep backward: every node counts, so each adds one to what its children gave.
use Prim.Native.Nat.{ℕ, ◌+◌, ◌≤◌, ◌<◌}
use mathlib.Core.Path.{◌≡◌, refl}
use mathlib.Core.Logic.{◌⊎◌, inl, inr, ◌≢◌}
use mathlib.Core.List.{List}
use native.Mathlib.Decide.{ℕ_discrete}
use Rattle.arrays.specs.At.{at}
use Rattle.net.specs.work.Rooted.{self}
use Rattle.net.specs.Count.{Count}
use Rattle.net.proofs.Counts.{count_all, count_same, count_one, count_add}
use Rattle.spines.specs.work.Parents.{SizesAll}
use Rattle.spines.specs.work.Sweeps.{Among, Owns, Sums}

-- the nodes
abbrev pub nodes : ℕ → List ℕ
nodes n = (count_all n).list

module _ (n : ℕ) (parent : List ℕ) where
  abbrev N : List ℕ
  N = nodes n

  abbrev B : ℕ → ℕ → Type 0
  B = Among N (at parent)

  pub size_owns : {pre : ℕ → Type 0} {post : ℕ → ℕ → Type 0} → ((x : ℕ) → x ≤ n → pre x)
      → ((x w : ℕ) → post x w → w ≡ x + 1) → Owns N n parent pre post
  size_owns {pre} {post} can one = record { fits = (count_all n).only; can = can; own = own }
    where
      own : (v x w : ℕ) → v < n → Count (λ y. B v y × (y ≢ v)) x → post x w → Count (B v) w
      own v x w b c e =
          rw (one x w e)
          (count_add {Q = λ y. y ≡ v} c (count_one v refl (λ y q. q)) (λ y h q. h.1 q)
          (λ y h. pick y h (ℕ_discrete y v)) (λ y h. h.0)
          (λ y q. rw q (record { is = (count_all n).all v b; below = self })))
        where
          pick : (y : ℕ) → B v y → Dec (y ≡ v) → (B v y × (y ≢ v)) ⊎ (y ≡ v)
          pick y h (yes q) = inr q
          pick y h (no m) = inl (h, m)

  pub sizes_all : {size : List ℕ} → Sums N n parent size → SizesAll n parent size
  sizes_all s =
      record {
        long = s.long;
        each = λ t b. count_same (λ x h. ((count_all n).only x h.is, h.below))
            (λ x h. record { is = (count_all n).all x h.0; below = h.1 }) (s.each t b);
      }
