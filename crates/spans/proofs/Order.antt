-- "At least as good" is an order of pairs, and of partners; the better of two is kept or taken; for one place a better
-- partner makes a better pair.
use Prim.Native.Nat.{ℕ, ◌≤◌}
use mathlib.Core.Path.{◌≡◌}
use mathlib.Core.Bool.{Bool}
use mathlib.Core.List.{List}
use native.Mathlib.Omega.{arith}
use Rattle.arrays.specs.At.{at}
use Rattle.spans.specs.work.Pairs.{Le, pair_across}
use Rattle.spans.specs.work.Partners.{Better, Ahead}
use Rattle.spans.specs.declared.across.Best.{Best}

pub le_refl : (x : Best) → Le x x
le_refl x = omega arith

pub le_trans : {x y z : Best} → Le x y → Le y z → Le x z
le_trans {x} {y} {z} p q = record {
  weight = omega (arith, p.weight, q.weight);
  length = λ a. omega (arith, p.length (omega (arith, q.weight)), q.length (omega (arith, p.weight)));
  low = λ a b. low (omega (arith, q.weight)) (omega (arith, p.weight)) b;
  high = λ a b c. high (omega (arith, q.weight)) (omega (arith, p.weight)) b c;
}
  where
    low : y.weight ≤ x.weight → z.weight ≤ y.weight → x.length ≤ z.length → z.low ≤ x.low
    low a a' b =
        let u = p.length a in let v = q.length a' in
        omega (arith, p.low a (omega arith), q.low a' (omega arith))

    high : y.weight ≤ x.weight → z.weight ≤ y.weight → x.length ≤ z.length → x.low ≤ z.low → z.high ≤ x.high
    high a a' b c =
        let u = p.length a in let v = q.length a' in
        let f = p.low a (omega arith) in let g = q.low a' (omega arith) in
        omega (arith, p.high a (omega arith) (omega arith), q.high a' (omega arith) (omega arith))

pub better_trans : {name d w : List ℕ} {x y z : ℕ} → Better name d w x y → Better name d w y z → Better name d w x z
better_trans {name} {d} {w} {x} {y} {z} p q = record {
  weight = omega (arith, p.weight, q.weight);
  near = λ a. omega (arith, p.near (omega (arith, q.weight)), q.near (omega (arith, p.weight)));
  node = λ a b. node (omega (arith, q.weight)) (omega (arith, p.weight)) b;
}
  where
    node : at w y ≤ at w x → at w z ≤ at w y → at d x ≤ at d z → at name z ≤ at name x
    node a a' b =
        let u = p.near a in let v = q.near a' in
        omega (arith, p.node a (omega arith), q.node a' (omega arith))

pub ahead_trans : {exact : Bool} {name d w : List ℕ} {x y z : ℕ} → Ahead exact name d w x y → Ahead exact name d w y z
    → Ahead exact name d w x z
ahead_trans p q =
    record {
      far = λ e. omega (arith, p.far e, q.far e);
      better = λ h. better_trans (p.better (λ e. omega (arith, q.far e, h e)))
          (q.better (λ e. omega (arith, p.far e, h e)));
    }

-- For one x a better partner is a better pair: an earlier node is an earlier pair
pub tie : (name ku wu d w : List ℕ) (x p q : ℕ) → Better name d w p q
    → Le (pair_across name ku wu d w x p) (pair_across name ku wu d w x q)
tie name ku wu d w x p q h = record {
  weight = omega (arith, h.weight);
  length = λ a. omega (arith, h.near (omega arith));
  low = λ a b. omega (arith, h.node (omega arith) (omega arith));
  high = λ a b c. omega (arith, h.node (omega arith) (omega arith));
}

-- two that are each at least as good as the other are one
pub le_antisym : (x y : Best) → Le x y → Le y x → x ≡ y
le_antisym x y p q =
    let a : x.weight ≡ y.weight = omega (arith, p.weight, q.weight) in
    let b : x.length ≡ y.length = omega (arith, p.length (omega arith), q.length (omega arith)) in
    let c : x.low ≡ y.low = omega (arith, p.low (omega arith) (omega arith), q.low (omega arith) (omega arith)) in
    let d : x.high ≡ y.high = omega (
      arith,
      p.high (omega arith) (omega arith) (omega arith),
      q.high (omega arith) (omega arith) (omega arith),
    ) in
    λ i. record { weight = a i; length = b i; low = c i; high = d i }
