-- One look is enough for 28. Two paired texts have as many arcs as each other (26), and where each arc of one has its
-- opposite in the other, no two have the same; so every arc of the other is such an opposite.
use Prim.Native.Nat.{ℕ, zero, suc, ◌≤◌, ◌<◌}
use mathlib.Core.Path.{◌≡◌, refl, sym, ◌∙◌}
use mathlib.Core.Bool.{false}
use mathlib.Core.Logic.{◌⊎◌, inl, inr}
use native.Mathlib.Omega.{arith}
use native.Mathlib.Numerals.{one-add}
use native.Mathlib.Decide.{ℕ_discrete}
use Rattle.net.specs.Count.{Count}
use Rattle.net.proofs.Counts.{count_none, count_one, count_add, count_full}
use Rattle.arcs.specs.Arcs.{Arcs, Paired}
use Rattle.arcs.specs.work.Chunk.{arc_key, back_key, NodesFit}
use Rattle.arcs.specs.work.Look.{Matches}
use Rattle.arcs.proofs.Keys.{flip}
use Rattle.arcs.proofs.Pairs.{Covers, covers_matches}

module _ (A B : Arcs) (f : NodesFit A) (g : NodesFit B) (p : Paired A) (q : Paired B) (c : Covers A B) where
  matches : Matches false A B
  matches = covers_matches A B f g p q c

  -- arc j of B is the opposite of one of the first k arcs of A
  abbrev Hit : ℕ → ℕ → Type 0
  Hit k j = (j < B.count) × ((i : ℕ) × (i < k) × (back_key B j ≡ arc_key A i))

  hits : (k : ℕ) → k ≤ A.count → Count (Hit k) k
  hits zero h = count_none (λ j t. omega (arith, t.1.1))
  hits (suc k) h = more (hits k (omega arith)) (c k (omega arith))
    where
      more : Count (Hit k) k → (j : ℕ) × (j < B.count) × (back_key B j ≡ arc_key A k) → Count (Hit (suc k)) (suc k)
      more n t =
          rw (one-add k)
          at (count_add {P = λ x. x ≡ t.0} {R = Hit (suc k)} (count_one t.0 refl (λ y e. e)) n apart split one
          other)
        where
          apart : (x : ℕ) → x ≡ t.0 → Hit k x → ⊥
          apart x e u =
              let o = matches.once u.1.0 k (omega (arith, u.1.1)) (omega arith)
              (sym u.1.2 ∙ rw (e) t.2) in
              omega (arith, u.1.1, o)

          one : (x : ℕ) → x ≡ t.0 → Hit (suc k) x
          one x e = rw (e) (t.1, (k, omega arith, t.2))

          other : (x : ℕ) → Hit k x → Hit (suc k) x
          other x u = (u.0, (u.1.0, omega (arith, u.1.1), u.1.2))

          split : (x : ℕ) → Hit (suc k) x → (x ≡ t.0) ⊎ Hit k x
          split x u = pick (ℕ_discrete u.1.0 k)
            where
              pick : Dec (u.1.0 ≡ k) → (x ≡ t.0) ⊎ Hit k x
              pick (yes e) = inl (matches.lone k x t.0 (omega arith) u.0 t.1 (rw (e) at u.1.2) t.2)
              pick (no n) = inr (u.0, (u.1.0, omega (arith, u.1.1), u.1.2))

  pub covers_back : A.count ≡ B.count → Covers B A
  covers_back e j h =
      let t = count_full B.count (λ x u. u.0) (hits A.count (omega arith)) (omega arith) j h in
      (t.1.0, t.1.1, flip A B f g t.1.0 j t.1.1 h (sym t.1.2))
