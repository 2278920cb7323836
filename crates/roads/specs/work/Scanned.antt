-- Numbers read at a place of a text s. A place i stands for `drop i s`, what the text has from there on.
use Rattle.std.specs.Prelude.{◌≡◌, List, ℕ, ◌+◌, ◌-◌, ◌*◌, min, ◌≤◌, ◌<◌, length, drop, Option, Some, None}
use Rattle.roads.specs.Number.{Field, ArcNumber}
use Rattle.roads.specs.declared.number.Scanned.{Scanned}

-- x stands for the number y: for itself below 10^19, and for 10^19 from there on
abbrev pub Carries : ℕ → ℕ → Type 0
Carries x y = x ≡ min y 10000000000000000000

-- one digit more, the byte b
pub record Longer (x b r : ℕ) : Type 0 where
  pub carries : (y : ℕ) → Carries x y → Carries r (10 * y + (b - 48))

-- a place further on, in the text or at its end
pub record Further (s : List ℕ) (at next : ℕ) : Type 0 where
  pub on : at < next
  pub within : next ≤ length s

-- the number at a place that ends with the byte `end`, or that there is none
pub data FieldOf (s : List ℕ) (at end : ℕ) : Option Scanned → Type 0 where
  number : {x : ℕ} {o : Scanned} → Field x end (drop at s) (drop o.next s) → Carries o.value x → Further s at o.next
      → FieldOf s at end (Some o)
  nothing : ((x : ℕ) (r : List ℕ) → Field x end (drop at s) r → ⊥) → FieldOf s at end None

-- the same, of numbers from `low` to `high` alone
pub data BoundedOf (s : List ℕ) (at end low high : ℕ) : Option Scanned → Type 0 where
  inside : {o : Scanned} → Field o.value end (drop at s) (drop o.next s) → low ≤ o.value → o.value ≤ high
      → Further s at o.next → BoundedOf s at end low high (Some o)
  outside : ((x : ℕ) (r : List ℕ) → Field x end (drop at s) r → low ≤ x → x ≤ high → ⊥)
      → BoundedOf s at end low high None

-- an arc's number at a place, or that there is none
pub data ArcNumberOf (s : List ℕ) (at top low : ℕ) : Option Scanned → Type 0 where
  bits : {o : Scanned} → ArcNumber top low o.value (drop at s) (drop o.next s) → o.value < 4294967296
      → Further s at o.next → ArcNumberOf s at top low (Some o)
  unfit : ((b : ℕ) (r : List ℕ) → ArcNumber top low b (drop at s) r → ⊥) → ArcNumberOf s at top low None
