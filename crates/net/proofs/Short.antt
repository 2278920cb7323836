-- A simple path has fewer rows than the net has nodes; so in an accepted net no path is longer than 4,095,000,000, and
-- where no row weighs farther than 1,000,000 from 0 no path weighs farther from 0 than that.
use Prim.Native.Nat.{ℕ, suc, ◌-◌, ◌*◌, ◌≤◌, ◌<◌}
use mathlib.Core.Path.{◌≡◌, refl, ap}
use mathlib.Core.Logic.{inl, inr}
use mathlib.Core.List.{List, ◌∷◌}
use native.Mathlib.Omega.{arith}
use lib.IntN.{ℤ, nat_abs}
use lib.ListN.{length}
use Rattle.table.proofs.Near.{sum_near}
use Rattle.arrays.specs.Members.{In, at, past, Distinct}
use Rattle.net.specs.Graph.{First, Ends, Walk, stop, go}
use Rattle.net.specs.Path.{Sum}
use Rattle.net.specs.Value.{Value, Total}
use Rattle.net.specs.Net.{first_end, second_end, length_of}
use Rattle.net.specs.work.Net.{Net}
use Rattle.arrays.proofs.Members.{not_nil}
use Rattle.net.proofs.Counts.{count_below}

module _ {u v : ℕ → ℕ} {k n : ℕ} (fit : (r : ℕ) → r < k → (u r < n) × (v r < n)) where
  node_fits : (z : ℕ) {x y : ℕ} {rs ns : List ℕ} → x < n → Walk u v (First k) x rs ns y → In z (x ∷ ns) → z < n
  node_fits z b w (at e) = rw e b
  node_fits z b stop (past i) = absurd (not_nil i)
  node_fits z b (go {r} {c = c} h e w) (past i) = node_fits z (side e) w i
    where
      side : {a : ℕ} → Ends u v r a c → c < n
      side (inl q) = rw q.1 at (fit r h).1
      side (inr q) = rw q.0 at (fit r h).0

  nodes_fit : {x y : ℕ} {rs ns : List ℕ} → x < n → Walk u v (First k) x rs ns y → (z : ℕ) → In z (x ∷ ns) → z < n
  nodes_fit b w z i = node_fits z b w i

  same_many : {x y : ℕ} {rs ns : List ℕ} → Walk u v (First k) x rs ns y → length rs ≡ length ns
  same_many stop = refl
  same_many (go h e w) = ap suc (same_many w)

  pub path_rows : {x y : ℕ} {rs ns : List ℕ} → x < n → Walk u v (First k) x rs ns y → Distinct (x ∷ ns) → length rs < n
  path_rows {x} {y} {rs} {ns} b w d =
      omega (
        arith,
        same_many w,
        count_below {P = λ z. In z (x ∷ ns)} n (nodes_fit b w)
            (record { list = x ∷ ns; once = d; only = λ z i. i; all = λ z i. i; long = refl }),
      )

  sum_most : (f : ℕ → ℕ) → ((r : ℕ) → r < k → f r ≤ 1000000) → {x y : ℕ} {rs ns : List ℕ} → Walk u v (First k) x rs ns y
      → Sum f rs ≤ 1000000 * length rs
  sum_most f m stop = omega arith
  sum_most f m (go {r} h e w) = omega (arith, m r h, sum_most f m w)

  total_near : (f : ℕ → ℤ) → ((r : ℕ) → r < k → nat_abs (f r) ≤ 1000000) → {x y : ℕ} {rs ns : List ℕ}
      → Walk u v (First k) x rs ns y → nat_abs (Total f rs) ≤ 1000000 * length rs
  unfolding Total
  total_near f m stop = omega arith
  total_near f m (go {r} {rs = rs} h e w) = omega (arith, m r h, total_near f m w, sum_near (f r) (Total f rs))

pub path_short : {s : List ℕ} {n a b l : ℕ} {heavy : ℕ → ℤ} {w : ℤ} → Net s n → a < n
    → Value (first_end s) (second_end s) (n - 1) (length_of s) heavy a b l w → l ≤ 4095000000
path_short {s} {n} {a} {b} {l} t c p =
    let fit : (r : ℕ) → r < n - 1 → (first_end s r < n) × (second_end s r < n) = λ r h. (t.first r h, t.second r h) in
    omega (
      arith,
      p.length,
      path_rows fit c p.path.1 p.path.2,
      sum_most fit (length_of s) t.short p.path.1,
      t.few,
    )

pub path_light : {s : List ℕ} {n a b l : ℕ} {heavy : ℕ → ℤ} {w : ℤ} → Net s n
    → ((r : ℕ) → r < n - 1 → nat_abs (heavy r) ≤ 1000000) → a < n
    → Value (first_end s) (second_end s) (n - 1) (length_of s) heavy a b l w → nat_abs w ≤ 4095000000
path_light {s} {n} {a} {b} {l} {heavy} {w} t near c p =
    let fit : (r : ℕ) → r < n - 1 → (first_end s r < n) × (second_end s r < n) = λ r h. (t.first r h, t.second r h) in
    omega (
      arith,
      ap nat_abs p.weight,
      path_rows fit c p.path.1 p.path.2,
      total_near fit heavy near p.path.1,
      t.few,
    )
