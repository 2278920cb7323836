-- Refusal 11 of a table whose header, size and rows are good: it is given exactly if a ring is in the net. From a ring
-- some row closes one, and so there is a first; and where 11 is given, the row named closes a ring with those before
-- it.
use Prim.Native.Nat.{ℕ, ◌+◌, ◌-◌, ◌≤◌, ◌<◌}
use mathlib.Core.Path.{◌≡◌}
use mathlib.Core.Logic.{inl, inr, ◌≢◌, ◌↔◌}
use mathlib.Core.List.{List}
use native.Mathlib.Omega.{arith}
use lib.ListN.{length}
use Rattle.table.specs.Header.{nodes_of, bound_of}
use Rattle.table.proofs.Accepted.{GoodTable, accepted, passed_on}
use Rattle.arrays.specs.Members.{In}
use Rattle.net.specs.Graph.{Ends, RingAt, Ring}
use Rattle.net.specs.work.Forest.{Forest}
use Rattle.net.specs.Net.{first_end, second_end}
use Rattle.net.specs.Ring.{RingRows}
use Rattle.tree.specs.Accept.{acceptance_refusal, Accepts}
use Rattle.net.proofs.Rows.{Closes}
use Rattle.net.proofs.Labels.{joined?}
use Rattle.net.proofs.RingExactly.{ring_closes, closes_ring}
use Rattle.net.proofs.RingRows.{row_closed, row_number, most_rows, ring_of, two_rows, repeated}
use Rattle.net.proofs.OneRing.{one_ring}
use Rattle.tree.proofs.Begins.{rings_bad, closer}
use Rattle.tree.proofs.Least.{NoneOrLeast, none_or_least}

pub ends_differ : (s : List ℕ) → GoodTable s → (r : ℕ) → r < nodes_of s - 1 → first_end s r ≢ second_end s r
unfolding first_end second_end
ends_differ s g r l = ((accepted s (nodes_of s) (bound_of s) g).rows r (omega arith)).apart

-- a good table is refused by 11 at the first row that closes a ring
pub first_refused : (s : List ℕ) → GoodTable s → (r g : ℕ) → r < nodes_of s - 1 → Forest (first_end s) (second_end s) r
    → RingRows (first_end s) (second_end s) r g → (g ≡ 0 → ⊥) → Accepts s (acceptance_refusal 11 r g)
first_refused s t r g l f p z =
    let c = row_closed (first_end s) (second_end s) p z in
    passed_on (λ k r. acceptance_refusal k r 0) s (nodes_of s) (bound_of s) t
    (rings_bad s (nodes_of s) r g
    (record { within = omega arith; forest = f; closes = λ h. (c.0, c.1.0, c.1.1) }) l p)

pub ring_refused : (s : List ℕ) → GoodTable s → Ring (first_end s) (second_end s) (nodes_of s - 1)
    → (r : ℕ) × (g : ℕ) × Accepts s (acceptance_refusal 11 r g)
ring_refused s g o =
    pick
    (none_or_least (RingAt (first_end s) (second_end s))
    (λ r. joined? (first_end s) (second_end s) r (first_end s r) (second_end s r)) (nodes_of s - 1))
    (ring_closes (first_end s) (second_end s) o)
  where
    pick : NoneOrLeast (RingAt (first_end s) (second_end s)) (nodes_of s - 1)
        → Closes (first_end s) (second_end s) (nodes_of s - 1) → (r : ℕ) × (g : ℕ) × Accepts s
        (acceptance_refusal 11 r g)
    pick (inl f) c = absurd (f c.0 c.1 c.2)
    pick (inr t) c =
        let n = row_number (first_end s) (second_end s) t.2 in (
          t.0,
          n.0,
          first_refused s g t.0 n.0 t.1 t.3 n.1 n.2,
        )

module _ (s : List ℕ) where
  pub refused_ring : (r : ℕ) × (g : ℕ) × Accepts s (acceptance_refusal 11 r g)
      → Ring (first_end s) (second_end s) (nodes_of s - 1)
  refused_ring q =
      let c = closer s q.0 q.1 q.2 in
      let p = row_closed (first_end s) (second_end s) c.number c.some in
      closes_ring (first_end s) (second_end s) (ends_differ s c.good) (q.0, c.below, (p.0, p.1.0, p.1.1))

  -- What the number says
  module _ (r g : ℕ) (p : Accepts s (acceptance_refusal 11 r g)) where
    pub ring_counted : (o : Ring (first_end s) (second_end s) (r + 1)) × In r o.rs × (length o.rs ≡ g)
    ring_counted =
        let c = closer s r g p in
        ring_of (first_end s) (second_end s) (ends_differ s c.good r c.below) c.number c.some

    pub ring_one : (o : Ring (first_end s) (second_end s) (r + 1)) → length o.rs ≡ g
    ring_one = let c = closer s r g p in one_ring (first_end s) (second_end s) c.before c.number

    pub ring_bounds : (2 ≤ g) × (g ≤ r + 1)
    ring_bounds =
        let c = closer s r g p in (
          two_rows (first_end s) (second_end s) (ends_differ s c.good r c.below) c.number c.some,
          most_rows (first_end s) (second_end s) c.number,
        )

    pub ring_repeat : (g ≡ 2) ↔ ((q : ℕ) × (q < r) × Ends (first_end s) (second_end s) q (first_end s r)
        (second_end s r))
    ring_repeat =
        let c = closer s r g p in
        repeated (first_end s) (second_end s) (ends_differ s c.good r c.below) c.number c.some c.before
