-- In a forest there is one simple path between two nodes, at the most: where two first differ, both go on without the
-- row they differ in, so its ends are joined without it.
use Prim.Native.Nat.{ℕ}
use mathlib.Core.Path.{◌≡◌, refl, sym}
use mathlib.Core.Logic.{inl, inr}
use mathlib.Core.List.{List, ◌∷◌}
use native.Mathlib.Decide.{ℕ_discrete}
use Rattle.arrays.specs.Members.{In, at, past, Distinct}
use Rattle.net.specs.Graph.{First, Ends, Walk, stop, go, Joined}
use Rattle.net.specs.work.Forest.{Forest}
use Rattle.net.proofs.Rows.{But, End, Closes, ends_left, other}
use Rattle.net.proofs.Joined.{joined_step, joined_trans, joined_sym}
use Rattle.net.proofs.Bridge.{detour}

module _ (u v : ℕ → ℕ) where
  -- A walk that does not meet an end x of row r does not use row r
  pub avoid : {P : ℕ → Type 0} {r x a b : ℕ} {rs ns : List ℕ} → End u v r x → ¬ In x (a ∷ ns) → Walk u v P a rs ns b
      → Walk u v (But P r) a rs ns b
  avoid i n stop = stop
  avoid {r} {x} i n (go {r = s} {a} {c} h e w) = go (h, λ q. n (hit q i e)) e (avoid i (λ m. n (past m)) w)
    where
      hit : {m : List ℕ} → s ≡ r → End u v r x → Ends u v s a c → In x (a ∷ c ∷ m)
      hit q (inl f) (inl k) = at {y = a} (cc)
      hit q (inl f) (inr k) = past (at {y = c} (cc))
      hit q (inr f) (inl k) = past (at {y = c} (cc))
      hit q (inr f) (inr k) = at {y = a} (cc)

  pub last_in : {P : ℕ → Type 0} {r c a b : ℕ} {rs ns : List ℕ} → Walk u v P a (r ∷ rs) (c ∷ ns) b → In b (c ∷ ns)
  last_in (go h e stop) = at refl
  last_in (go h e (go h' e' w)) = past (last_in (go h' e' w))

  -- one path; the ends are named apart, and equal
  unique_to : {k a b t : ℕ} {rs ns rs' ns' : List ℕ} → Forest u v k → Walk u v (First k) a rs ns b
      → Walk u v (First k) a rs' ns' t → b ≡ t → Distinct (a ∷ ns) → Distinct (a ∷ ns') → (rs ≡ rs') × (ns ≡ ns')
  unique_to f stop stop q d d' = (refl, refl)
  unique_to f stop (go h e w) q d d' = absurd (d'.0 (rw (sym q) at (last_in (go h e w))))
  unique_to f (go h e w) stop q d d' = absurd (d.0 (rw q at (last_in (go h e w))))
  unique_to {k} {a} {b} {t} f (go {r = r} {c = c} {rs} {ns} h e w) (go {r = s} {c = d} {rs = rs'} {ns = ns'} h' e' w')
      q i j =
      pick (ℕ_discrete r s) (λ w''. unique_to f w w'' q i.1)
    where
      pick : Dec (r ≡ s) → (Walk u v (First k) c rs' ns' t → Distinct (c ∷ ns') → (rs ≡ rs') × (ns ≡ ns'))
          → (◌≡◌ {A = List ℕ} (r ∷ rs) (s ∷ rs')) × (◌≡◌ {A = List ℕ} (c ∷ ns) (d ∷ ns'))
      pick (yes z) ih =
          let m : c ≡ d = other u v e (rw z e') in
          let t : (rs ≡ rs') × (ns ≡ ns') = ih (rw m w') (rw m j.1) in
          (cc, cc)
      pick (no n) ih =
          let x : Joined u v (But (First k) r) c b = (_, _, avoid (ends_left u v e) i.0 w) in
          let y : Joined u v (But (First k) r) d b = (_, _, rw (sym q) at (avoid (ends_left u v e) j.0 w')) in
          let o : Closes u v k = detour u v h e
          (joined_trans u v x (joined_sym u v (joined_step u v (h', λ q. n (sym q)) e' y))) in
          absurd (f o.0 o.1 o.2)

  -- one path
  pub unique : {k a b : ℕ} {rs ns rs' ns' : List ℕ} → Forest u v k → Walk u v (First k) a rs ns b
      → Walk u v (First k) a rs' ns' b → Distinct (a ∷ ns) → Distinct (a ∷ ns') → (rs ≡ rs') × (ns ≡ ns')
  unique f w w' d d' = unique_to f w w' refl d d'
