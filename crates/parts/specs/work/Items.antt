-- Working statements of the private functions of items.rt and spine.rt, and no part of the promises: items of a spine,
-- and a part cut in two.
use Rattle.std.specs.Prelude.{ℕ, ◌+◌, ◌<◌, ◌≡◌, Bool, true, false, List}
use Rattle.arrays.specs.At.{at}
use Rattle.parts.specs.work.Parts.{Part}

-- r: the item at i is a node of the spine of h
pub record Owned (head : List ℕ) (h i : ℕ) (r : Bool) : Type 0 where
  pub yes_own : r ≡ true → at head i ≡ h
  pub no_own : r ≡ false → at head i ≡ h → ⊥

-- the item at i of the spine of h ends at r
pub record ItemEnd (stop head : List ℕ) (h i r : ℕ) : Type 0 where
  pub alone : at head i ≡ h → r ≡ i + 1
  pub tree : (at head i ≡ h → ⊥) → r ≡ at stop i

module _ (stop head parent : List ℕ) where
  -- a part is cut in two parts, neither empty, at a boundary of items
  pub record Cut (h s e m : ℕ) : Type 0 where
    pub low : s < m
    pub high : m < e
    pub left : Part stop head parent h s m
    pub right : Part stop head parent h m e

  -- a hanging tree: its top heads its own spine
  pub record Tree (s e : ℕ) : Type 0 where
    pub own_head : at head s ≡ s
    pub parent_in : at parent s < s
    pub inside : Part stop head parent s s e
