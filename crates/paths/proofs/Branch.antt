-- A path's value as the code has it, the weight lifted: at the start, and a branch further or nearer.
use Prim.Native.Nat.{ℕ, ◌+◌, ◌≤◌, ◌<◌}
use mathlib.Core.Path.{◌≡◌, sym, ap, ◌∙◌}
use mathlib.Core.Logic.{◌≢◌}
use mathlib.Core.List.{List}
use native.Mathlib.Omega.{arith}
use lib.IntN.{ℤ, pos, sub_ℕ, ◌+ℤ◌, ◌-ℤ◌, +ℤ-neg_ℤ_cancel}
use Rattle.arrays.specs.At.{at}
use Rattle.table.specs.work.Diff.{Diff, up}
use Rattle.table.proofs.Lift.{diff, same, diff_only, sum}
use Rattle.net.specs.work.Rooted.{Above}
use Rattle.net.specs.Value.{Value}
use Rattle.net.proofs.Values.{value_none, value_down, value_up, value_nearer}
use Rattle.paths.specs.work.Ground.{Ground}
use Rattle.paths.specs.work.Sweeps.{Far}

cancel : (x y z : ℤ) → x +ℤ z ≡ y +ℤ z → x ≡ y
cancel x y z e = sym (+ℤ-neg_ℤ_cancel x z) ∙ ap (λ t. t -ℤ z) e ∙ +ℤ-neg_ℤ_cancel y z

-- a lifted branch added, and taken off
lift_add : {X x Y : ℕ} {W w : ℤ} → Diff X 8589934592 W → Diff x 1000000 w → Y + 1000000 ≡ X + x
    → Diff Y 8589934592 (W +ℤ w)
lift_add p q e = same (omega arith) (sum p q)

lift_off : {X x Y : ℕ} {W w : ℤ} → Diff X 8589934592 (W +ℤ w) → Diff x 1000000 w → Y + x ≡ X + 1000000
    → Diff Y 8589934592 W
lift_off {X} {x} {Y} {W} {w} p q e =
    let d = diff Y 8589934592 in
    rw (cancel (sub_ℕ Y 8589934592) W w (diff_only (lift_add d q (omega arith)) p)) at d

module _ {n : ℕ} {parent order place bl bw : List ℕ} (g : Ground n parent order place bl bw) (a : ℕ) where
  pub far_start : Far g a a 0 8589934592 0
  far_start =
      record {
        weight = pos 0;
        value = value_none g.u g.v a;
        lift = up 0 (omega arith);
        low = omega arith;
        high = omega arith;
        short = omega arith;
      }

  pub far_weaken : {x l w i : ℕ} (j : ℕ) → i ≤ j → Far g a x l w i → Far g a x l w j
  far_weaken j h f =
      record {
        weight = f.weight;
        value = f.value;
        lift = f.lift;
        low = omega (arith, f.low);
        high = omega (arith, f.high);
        short = omega (arith, f.short);
      }

  module _ (x : ℕ) (b : x < n) (z : x ≢ 0) (f y : ℕ) (ef : f ≡ at bl x) (ey : y ≡ at bw x) where
    measured : f ≡ g.long (g.row x)
    measured = ef ∙ g.length_is x b z

    weighed : Diff y 1000000 (g.heavy (g.row x))
    weighed = rw (ey) (g.weight_is x b z)

    -- a branch further, wherever it leads
    further : {c e l w i l₁ w₁ : ℕ} (p : Far g a c l w i) → l₁ ≡ l + f → w₁ + 1000000 ≡ w + y
        → Value g.u g.v g.k g.long g.heavy a e (l + g.long (g.row x))
        (p.weight +ℤ g.heavy (g.row x)) → Far g a e l₁ w₁ (i + 1)
    further p el ew v = record {
      weight = p.weight +ℤ g.heavy (g.row x);
      value = rw (el, measured) v;
      lift = lift_add p.lift weighed ew;
      low = omega (arith, p.low, g.light x b z);
      high = omega (arith, p.high, g.light x b z);
      short = omega (arith, p.short, g.short x b z);
    }

    pub far_up : {l w i : ℕ} (l₁ w₁ : ℕ) → Above (at parent) x a → Far g a x l w i
        → l₁ ≡ l + f → w₁ + 1000000 ≡ w + y → Far g a (at parent x) l₁ w₁ (i + 1)
    far_up l₁ w₁ h p el ew = further p el ew (value_up g.u g.v g.rooted x b z h p.value)

    pub far_down : {l w i : ℕ} (l₁ w₁ : ℕ) → ¬ Above (at parent) x a → Far g a (at parent x) l w i
        → l₁ ≡ l + f → w₁ + 1000000 ≡ w + y → Far g a x l₁ w₁ (i + 1)
    far_down l₁ w₁ h p el ew = further p el ew (value_down g.u g.v g.rooted x b z h p.value)

    pub far_nearer : {l w i : ℕ} (l₁ w₁ : ℕ) → a < n → Above (at parent) x a → Far g a (at parent x) l w i → l₁ + f ≡ l
        → w₁ + y ≡ w + 1000000 → Far g a x l₁ w₁ (i + 1)
    far_nearer l₁ w₁ ba h p el ew =
        let t = value_nearer g.u g.v g.rooted x b z ba h p.value in
        let q : t.0 ≡ l₁ = omega (arith, t.3, measured) in
        record {
          weight = t.1;
          value = rw q at t.2;
          lift = lift_off (rw t.4 p.lift) weighed ew;
          low = omega (arith, p.low, g.light x b z);
          high = omega (arith, p.high, g.light x b z);
          short = omega (arith, p.short);
        }

  -- what is nearer by a branch was that branch further
  pub nearer_fits : (x : ℕ) → x < n → x ≢ 0 → {l w i : ℕ} → a < n → Above (at parent) x a → Far g a (at parent x) l w i
      → at bl x ≤ l
  nearer_fits x b z ba h p =
      let t = value_nearer g.u g.v g.rooted x b z ba h p.value in
      omega (arith, t.3, g.length_is x b z)
