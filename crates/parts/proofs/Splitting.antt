-- Cutting a part at a boundary of items: `Splitting` is the loop's invariant, prev and i being neighbouring boundaries.
use Prim.Native.Nat.{ℕ, ◌≤◌, ◌<◌}
use mathlib.Core.Path.{◌≡◌}
use mathlib.Core.List.{List}
use native.Mathlib.Omega.{arith}
use native.Mathlib.Decide.{ℕ_discrete}
use Rattle.parts.specs.work.Parts.{Part, none}
use Rattle.parts.specs.work.Items.{ItemEnd}
use Rattle.parts.proofs.Parts.{part_le, part_append, First, first_of}

module _ (stop head parent : List ℕ) where
  pub record Splitting (h s e prev i : ℕ) : Type 0 where
    pub prev_low : s ≤ prev
    pub step : prev < i
    pub high : i ≤ e
    pub prev_left : Part stop head parent h s prev
    pub prev_right : Part stop head parent h prev e
    pub left : Part stop head parent h s i
    pub right : Part stop head parent h i e
    pub two : prev ≡ s → i < e

  pub splitting_first : (h s e i : ℕ) → Part stop head parent h s e → s < e → (ItemEnd stop head h s e → ⊥)
      → ItemEnd stop head h s i → Splitting h s e s i
  splitting_first h s e i p b n q =
      let f : First stop head parent h s e i = first_of stop head parent i p b q in
      record {
        prev_low = omega arith;
        step = f.some;
        high = part_le stop head parent f.rest;
        prev_left = none;
        prev_right = p;
        left = f.item;
        right = f.rest;
        two = λ _. two (ℕ_discrete i e) (part_le stop head parent f.rest);
      }
    where
      two : Dec (i ≡ e) → i ≤ e → i < e
      two (yes k) l = absurd (n (rw (← k) q))
      two (no k) l = omega arith

  pub splitting_more : (h s e prev i j : ℕ) → Splitting h s e prev i → i < e → ItemEnd stop head h i j
      → Splitting h s e i j
  splitting_more h s e prev i j g b q =
      let f : First stop head parent h i e j = first_of stop head parent j g.right b q in
      record {
        prev_low = omega (arith, g.prev_low, g.step);
        step = f.some;
        high = part_le stop head parent f.rest;
        prev_left = g.left;
        prev_right = g.right;
        left = part_append stop head parent g.left f.item;
        right = f.rest;
        two = λ k. absurd (omega (arith, g.prev_low, g.step));
      }
