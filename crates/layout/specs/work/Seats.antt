-- What the functions of seats.rt promise each other: each node gets its spot, so that what is below it fills the spots
-- from its own on.
use Rattle.std.specs.Prelude.{ℕ, ◌+◌, ◌≤◌, ◌<◌, ◌≡◌, ◌⊎◌, ◌≢◌, List, length}
use Rattle.arrays.specs.At.{at}
use Rattle.net.specs.Count.{Count}
use Rattle.net.specs.work.Rooted.{Above}
use Rattle.spines.specs.work.Parents.{Child}

-- there is room for a child of size zv below a node of spot sp, next free spot cp and size zp
pub record SeatRoom (sp cp zp zv : ℕ) : Type 0 where
  pub fits : sp + zp ≤ 4096
  pub free : cp + zv ≤ sp + zp
  pub less : zv ≤ zp

-- a node of head hv and size zv gets the spot s, and c is now its parent's next free spot; the parent has head hp,
-- spot sp, size zp and had the next free spot cp. On the parent's spine the node ends where the parent ends; else it
-- takes the next free spot
pub record Seated (hv hp sp cp zp zv s c : ℕ) : Type 0 where
  pub main : hv ≡ hp → (s + zv ≡ sp + zp) × (c ≡ cp)
  pub hung : hv ≢ hp → (s ≡ cp) × (c ≡ cp + zv)

module _ (n : ℕ) (parent place head : List ℕ) where
  -- c is a child of p that is not on p's spine, and comes before the i-th of the walk
  pub record Hanging (i p c : ℕ) : Type 0 where
    pub child : Child n (at parent) p c
    pub placed : at place c < i
    pub off : at head c ≢ at head p

  -- x lies in a tree that hangs from p
  pub record InHanging (i p x : ℕ) : Type 0 where
    pub by : ℕ
    pub tree : Hanging i p by
    pub fits : x < n
    pub below : Above (at parent) by x

  -- the nodes for which p's spots are used up
  abbrev pub Used : ℕ → ℕ → ℕ → Type 0
  Used i p x = (x ≡ p) ⊎ InHanging i p x

  -- the first i nodes of the walk have their spots, and next is the next free spot below each
  pub record Seating (size : List ℕ) (i : ℕ) (spot next : List ℕ) : Type 0 where
    pub long_spot : length spot ≡ 4096
    pub long_next : length next ≡ 4096
    pub root : at spot 0 ≡ 0
    pub ends : (p : ℕ) → p < n → at place p < i → at spot p + at size p ≤ n
    pub used : (p : ℕ) → p < n → at place p < i → (k : ℕ) × (at next p ≡ at spot p + k) × Count (Used i p) k
    pub main : (p c : ℕ) → Child n (at parent) p c → at place c < i → at head c ≡ at head p
        → at spot c + at size c ≡ at spot p + at size p
    pub hung : (p c : ℕ) → Hanging i p c → (at spot p < at spot c) × (at spot c + at size c ≤ at next p)
    pub apart : (p c d : ℕ) → Hanging i p c → Hanging i p d → c ≢ d
        → (at spot c + at size c ≤ at spot d) ⊎ (at spot d + at size d ≤ at spot c)
