-- Numbers within bounds, and an arc's number. Below 10^19 the number carried is the number read, so it can be compared
-- with any bound there; and where the number read is outside, or none is read, no reading is inside, since a number at
-- a place is one. A minus is looked for first: without one the number stands for itself, with one its 32 bits follow.
use mathlib.Core.Path.{◌≡◌}
use mathlib.Core.List.{List}
use Prim.Native.Nat.{ℕ, ◌+◌, ◌-◌, ◌≤◌, ◌<◌}
use native.Mathlib.Omega.{arith}
use lib.ListN.{length, get_or, drop_of_length-le}
use Rattle.std.proofs.Common.{Option, Some, None}
use Rattle.roads.specs.Number.{plain, minus}
use Rattle.roads.specs.work.Scanned.{
  FieldOf,
  number,
  nothing,
  BoundedOf,
  inside,
  outside,
  ArcNumberOf,
  bits,
  unfit,
}
use Rattle.roads.specs.declared.number.Scanned.{Scanned}
use Rattle.roads.proofs.Places.{from_place, byte_there}
use Rattle.roads.proofs.Fields.{field_only, number_some, number_plain, number_minus}

module _ {s : List ℕ} {at end low high : ℕ} where
  pub no_field : FieldOf s at end None → BoundedOf s at end low high None
  no_field (nothing n) = outside (λ x r f lo hi. n x r f)

  module _ {o : Scanned} (small : high < 10000000000000000000) where
    pub in_bounds : FieldOf s at end (Some o) → low ≤ o.value → o.value ≤ high → BoundedOf s at end low high (Some o)
    in_bounds (number {x} f c m) lo hi = let e : x ≡ o.value = omega (arith, c) in inside (rw e at f) lo hi m

    pub out_of_bounds : end < 48 → FieldOf s at end (Some o) → (low ≤ o.value → o.value ≤ high → ⊥)
        → BoundedOf s at end low high None
    out_of_bounds none (number f c m) n = outside λ y r g lo hi.
        let e = field_only none f g in n (omega (arith, c, e.0)) (omega (arith, c, e.0))

  pub bounded_high : {o : Scanned} → BoundedOf s at end low high (Some o) → o.value ≤ high
  bounded_high (inside f lo hi m) = hi

module _ {s : List ℕ} {at top low : ℕ} where
  pub number_out : length s ≤ at → ArcNumberOf s at top low None
  number_out h = unfit (λ b r v. number_some v (drop_of_length-le s h))

  -- what is read where no minus stands
  pub number_read : {q : Option Scanned} → top < 4294967296 → at < length s → (get_or s at 0 ≡ 45 → ⊥)
      → BoundedOf s at 10 0 top q → ArcNumberOf s at top low q
  number_read small h n (inside f lo hi m) = bits (plain f hi) (omega arith) m
  number_read small h n (outside g) = unfit λ b r v.
      let w = number_plain v (from_place s at h) n in g b r w.0 (omega arith) w.1

  module _ (h : at < length s) (e : get_or s at 0 ≡ 45) where
    pub negative_read : {o : Scanned} → low < 4294967296 → BoundedOf s (at + 1) 10 1 low (Some o)
        → ArcNumberOf s at top low (Some (record { value = 4294967296 - o.value; next = o.next }))
    negative_read {o} small (inside f lo hi m) =
        let k = byte_there s at 45 h e in
        bits (minus {b = 4294967296 - o.value} k f lo hi (omega arith)) (omega arith)
        (record { on = omega (arith, m.on); within = m.within })

    pub negative_none : BoundedOf s (at + 1) 10 1 low None → ArcNumberOf s at top low None
    negative_none (outside g) = let k = byte_there s at 45 h e in unfit λ b r v.
        let w = number_minus v k in g w.0 r w.1 w.2 w.3

  pub number_small : {o : Scanned} → ArcNumberOf s at top low (Some o) → o.value < 4294967296
  number_small (bits g small k) = small
