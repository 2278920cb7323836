-- What is laid of nodes is nodes.
use Prim.Native.Nat.{ℕ, ◌+◌, ◌≤◌, ◌<◌}
use Rattle.std.proofs.Common.{get_or, slice_set}
use Rattle.std.proofs.Math.ListN.{length-set}
use Rattle.std.proofs.lemmas.Grind.{common_steps}
use mathlib.Core.Path.{◌≡◌, sym, ap, ◌∙◌}
use mathlib.Core.List.{List}
use native.Mathlib.Omega.{arith}
use native.Mathlib.Decide.{dec_lt, ℕ_discrete}
use Rattle.arrays.specs.At.{at}
use Rattle.layout.specs.work.Laid.{Spots, Laid, LaidOf}

-- what is laid of nodes is nodes
pub laid_under : {n : ℕ} {spot to : List ℕ} {f : ℕ → ℕ} → Spots n spot → ((v : ℕ) → 1 ≤ v → v < n → f v < n)
    → Laid 1 n spot f to → (s : ℕ) → s < n → at to s < n
laid_under {n} {spot} {to} {f} p g h s k = pick (dec_lt (at to s) n)
  where
    pick : Dec (at to s < n) → at to s < n
    pick (yes q) = q
    pick (no q) =
        let none : at to s ≡ 0 = h.rest s (omega (arith, k, p.small)) (λ v l b e.
        q (omega (arith, ap (λ (x : ℕ). at to x) e, h.each v l b, g v l b))) in
        omega (arith, none, p.some)

-- one node more has put its own
pub laid_more : {A : Type 0} {none : A} {n lo v s : ℕ} {x : A} {spot : List ℕ} {to : List A} {f : ℕ → A} → Spots n spot
    → lo ≤ v → v < n → LaidOf none lo v spot f to → s ≡ at spot v → x ≡ f v
    → LaidOf none lo (v + 1) spot f (slice_set to s x)
laid_more {A} {none} {n} {lo} {v} {s} {x} {spot} {to} {f} p l b g q r =
    record {
      long = omega (arith, length-set {A = A}, g.long);
      each = λ u a c. each u a c (ℕ_discrete u v);
      rest = λ t a c. other t (λ e. c v l (omega arith) (sym q ∙ e)) ∙ g.rest t a (λ u h k. c u h (omega arith));
    }
  where
    other : (t : ℕ) → (s ≡ t → ⊥) → get_or (slice_set to s x) t none ≡ get_or to t none
    other t d = grind (arith, common_steps)

    here : get_or (slice_set to s x) s none ≡ x
    here = grind (arith, common_steps, g.long, q, p.within v b, p.small)

    each : (u : ℕ) → lo ≤ u → u < v + 1 → Dec (u ≡ v) → get_or (slice_set to s x) (at spot u) none ≡ f u
    each u a c (yes e) = rw (e, ← q) (here ∙ r)
    each u a c (no e) =
        other (at spot u) (λ k. e (p.one u v (omega arith) b (sym k ∙ q))) ∙ g.each u a (omega arith)
