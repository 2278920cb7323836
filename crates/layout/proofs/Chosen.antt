-- The best pair of nodes over their climbs to the root: what stands between the pairs of spots and the paths of the
-- net. d and w are each node's distance and lifted weight from the root.
use Prim.Native.Nat.{ℕ, ◌+◌, ◌*◌, ◌≤◌, ◌<◌}
use mathlib.Core.Path.{◌≡◌}
use mathlib.Core.Logic.{◌⊎◌}
use mathlib.Core.List.{List}
use Rattle.arrays.specs.At.{at}
use Rattle.spans.specs.work.Pairs.{best4, Le}
use Rattle.spans.specs.declared.across.Best.{Best}
use Rattle.parts.specs.work.Lift.{key_lift}
use Rattle.layout.proofs.Meeting.{Meet}

-- twice what stands at a node is at most the lift
pub record Lifted (n : ℕ) (d : List ℕ) : Type 0 where
  pub low : (x : ℕ) → x < n → 2 * at d x ≤ key_lift

module _ (n : ℕ) (parent d w : List ℕ) where
  -- what the pair of x and y weighs and measures, lifted
  pub record Value (x y : ℕ) (b : Best) : Type 0 where
    pub t : ℕ
    pub meet : Meet parent x y t
    pub weight : b.weight + 2 * at w t ≡ key_lift + at w x + at w y
    pub length : b.length + 2 * at d t ≡ key_lift + at d x + at d y
    pub low : b.low ≡ x
    pub high : b.high ≡ y

  -- the pair of x and y has a value, and if that is within the length test, new is at least as good
  pub record Met (x y : ℕ) (Within : ℕ → Type 0) (new : Best) : Type 0 where
    pub best : Best
    pub value : Value x y best
    pub beaten : Within best.length → Le best new

  -- new is a pair within the length test
  pub record Found (Within : ℕ → Type 0) (new : Best) : Type 0 where
    pub x : ℕ
    pub y : ℕ
    pub order : x < y
    pub fits : y < n
    pub value : Value x y new
    pub short : Within new.length

  -- new beats every pair within the length test, and is one, or none
  pub record Chosen (Within : ℕ → Type 0) (new : Best) : Type 0 where
    pub beats : (x y : ℕ) → x < y → y < n → Met x y Within new
    pub comes : (new ≡ best4 0 0 0 0) ⊎ Found Within new
