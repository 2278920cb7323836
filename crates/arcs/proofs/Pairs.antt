-- From a look through the arcs to the good conditions of 27 and 28, and back.
use Prim.Native.Nat.{ℕ, ◌<◌}
use mathlib.Core.Path.{◌≡◌, refl, sym, ◌∙◌}
use mathlib.Core.Bool.{true, false, false≢true}
use mathlib.Core.Logic.{inl, inr}
use native.Mathlib.Omega.{arith}
use Rattle.arcs.specs.Arcs.{Arcs, Paired, AlongBranch, Names, SameBranches}
use Rattle.arcs.specs.work.Chunk.{arc_key, back_key, NodesFit}
use Rattle.arcs.specs.work.Look.{Matches, MatchedBelow}
use Rattle.arcs.proofs.Keys.{same_from, same_to, back_from, back_to, flip, same_key, back_key_lem, loop_key}

module _ (A : Arcs) (f : NodesFit A) where
  pub matched_paired : MatchedBelow true A A A.count → Paired A
  matched_paired m = record {
    once = λ i j a b p q.
        let t = m.each i a in
        m.lone t.0 i j t.1 a b (flip A A f f i t.0 a t.1 (sym t.2))
        (flip A A f f j t.0 b t.1 (sym (same_key A A i j p q) ∙ sym t.2));
    apart = λ i a e. m.apart (omega arith) i a (loop_key A i e);
    opposite = λ i a.
        let t = m.each i a in (
          t.0,
          record {
            within = t.1;
            leaves = sym (back_to A A f f i t.0 a t.1 (sym t.2));
            leads = sym (back_from A A f f i t.0 a t.1 (sym t.2));
            equal = m.numbers refl i t.0 a t.1 t.2;
          },
        );
  }

  pub paired_matches : Paired A → Matches true A A
  paired_matches p = record {
    once = λ i j a b e. p.once i j a b (same_from A A f f i j a b e) (same_to A A f f i j a b e);
    apart = λ i a e. p.apart i a (back_from A A f f i i a a e);
    each = λ i a. let t = p.opposite i a in (t.0, t.1.within, opposite_key i a);
    lone = lone;
    numbers = λ _ i j a b e.
        let t = p.opposite i a in
        rw (lone i j t.0 a b t.1.within e (opposite_key i a)) t.1.equal;
  }
    where
      opposite_key : (i : ℕ) (a : i < A.count) → back_key A (p.opposite i a).0 ≡ arc_key A i
      opposite_key i a =
          let t = p.opposite i a in
          sym (back_key_lem A A i t.0 (sym t.1.leads) (sym t.1.leaves))

      lone : (i g h : ℕ) → i < A.count → g < A.count → h < A.count → back_key A g ≡ arc_key A i
          → back_key A h ≡ arc_key A i → g ≡ h
      lone i g h a b c d e =
          let q : arc_key A g ≡ arc_key A h = sym (flip A A f f i g a b (sym d)) ∙ flip A A f f i h a c (sym e) in
          p.once g h b c (same_from A A f f g h b c q) (same_to A A f f g h b c q)

-- each arc of A has its opposite in B
abbrev pub Covers : Arcs → Arcs → Type 0
Covers A B = (i : ℕ) → i < A.count → (j : ℕ) × (j < B.count) × (back_key B j ≡ arc_key A i)

module _ (A B : Arcs) (f : NodesFit A) (g : NodesFit B) where
  pub covers_matches : Paired A → Paired B → Covers A B → Matches false A B
  covers_matches p q c = record {
    once = λ i j a b e. p.once i j a b (same_from A A f f i j a b e) (same_to A A f f i j a b e);
    apart = λ i a e. q.apart i a (back_from B B g g i i a a e);
    each = c;
    lone = λ i x y a b d e h.
        let r : arc_key B x ≡ arc_key B y = sym (flip A B f g i x a b (sym e)) ∙ flip A B f g i y a d (sym h) in
        q.once x y b d (same_from B B g g x y b d r) (same_to B B g g x y b d r);
    numbers = λ h. absurd (false≢true h);
  }

  pub covers_names : Covers A B → (a b : ℕ) → Names A a b → Names B a b
  covers_names c a b n =
      let t = c n.arc n.within in
      let x = back_from A B f g n.arc t.0 n.within t.1 (sym t.2) in
      let y = back_to A B f g n.arc t.0 n.within t.1 (sym t.2) in
      record { arc = t.0; within = t.1; along = turn n.arc t.0 x y n.along }
    where
      turn : (i j : ℕ) → A.from i ≡ B.to j → A.to i ≡ B.from j → AlongBranch A i a b → AlongBranch B j a b
      turn i j x y (inl h) = inr (sym y ∙ h.1, sym x ∙ h.0)
      turn i j x y (inr h) = inl (sym y ∙ h.1, sym x ∙ h.0)

  pub names_covers : Paired B → ((a b : ℕ) → Names A a b → Names B a b) → Covers A B
  names_covers q n i a = pick (n (A.from i) (A.to i) (record { arc = i; within = a; along = inl (refl, refl) }))
    where
      turn : (j : ℕ) → j < B.count → AlongBranch B j (A.from i) (A.to i)
          → (j : ℕ) × (j < B.count) × (back_key B j ≡ arc_key A i)
      turn j b (inl h) =
          let t = q.opposite j b in (
            t.0,
            t.1.within,
            sym (back_key_lem A B i t.0 (sym h.0 ∙ sym t.1.leads) (sym h.1 ∙ sym t.1.leaves)),
          )
      turn j b (inr h) = (j, b, sym (back_key_lem A B i j (sym h.1) (sym h.0)))

      pick : Names B (A.from i) (A.to i) → (j : ℕ) × (j < B.count) × (back_key B j ≡ arc_key A i)
      pick m = turn m.arc m.within m.along

pub same_matches : (A B : Arcs) → NodesFit A → NodesFit B → Paired A → Paired B → SameBranches A B → Matches false A B
same_matches A B f g p q s = covers_matches A B f g p q (names_covers A B f g q s.there)
