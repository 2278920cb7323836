-- A sweep forward over the order: each node's value from its parent's. Q x y says what is wanted of the value y at node
-- x.
use Prim.Native.Nat.{ℕ, ◌+◌, ◌≤◌, ◌<◌}
use mathlib.Core.Path.{◌≡◌, sym, ap, ◌∙◌}
use mathlib.Core.Logic.{◌≢◌}
use mathlib.Core.List.{List}
use native.Mathlib.Omega.{arith}
use native.Mathlib.Decide.{ℕ_discrete}
use lib.ListN.{length, set, length-set}
use lib.Seq.{get_or-set_same, get_or-set_other}
use Rattle.arrays.specs.At.{at}
use Rattle.reach.specs.work.Grown.{Grown}
use Rattle.reach.proofs.Grown.{par_earlier, par_fits}

-- the nodes at the places below i have their values
pub record Swept (Q : ℕ → ℕ → Type 0) (i : ℕ) (order d : List ℕ) : Type 0 where
  pub long : length d ≡ 4096
  pub each : (j : ℕ) → j < i → Q (at order j) (at d (at order j))

module _ {n : ℕ} {parent order place : List ℕ} (g : Grown n parent order place) {Q : ℕ → ℕ → Type 0} where
  pub swept_root : {d : List ℕ} → length d ≡ 4096 → Q 0 (at d 0) → Swept Q 1 order d
  swept_root {d} l q = record { long = l; each = λ j b. first j b }
    where
      first : (j : ℕ) → j < 1 → Q (at order j) (at d (at order j))
      first j b = let z : j ≡ 0 = omega arith in rw (z, g.root) q

  module _ {i : ℕ} {d : List ℕ} (s : Swept Q i order d) where
    -- the parent's value is there
    pub swept_parent : (x p : ℕ) → 0 < i → i < n → x ≡ at order i → p ≡ at parent x → Q p (at d p)
    swept_parent x p z b ex ep =
        let e : p ≡ at parent (at order i) = ep ∙ ap (at parent) ex in
        let h = g.here (at parent (at order i)) (par_fits g i z b) in
        rw (e ∙ sym h.1) (s.each (at place (at parent (at order i))) (par_earlier g i z b))

    pub swept_next : (x y : ℕ) → i < n → x ≡ at order i → Q x y → Swept Q (i + 1) order (set d x y)
    swept_next x y b ex q = record { long = length-set d x y ∙ s.long; each = λ j c. pick j c (ℕ_discrete j i) }
      where
        pick : (j : ℕ) → j < i + 1 → Dec (j ≡ i) → Q (at order j) (at (set d x y) (at order j))
        pick j c (yes e) = rw (e, ← ex, get_or-set_same d x y 0 (omega (arith, g.within i b, g.some.1, s.long))) q
        pick j c (no m) =
            let o : at order j ≢ x = λ e. m (sym (g.back j (omega arith)) ∙ ap (at place) (e ∙ ex) ∙ g.back i b) in
            rw (get_or-set_other d x (at order j) y 0 o) (s.each j (omega arith))

    pub swept_all : n ≤ i → (x : ℕ) → x < n → Q x (at d x)
    swept_all l x b = let h = g.here x b in rw h.1 at (s.each (at place x) (omega (arith, h.0)))
