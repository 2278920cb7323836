-- The pairs of entries that are lacking: the first of them, of some first nodes and then of more.
use Rattle.std.specs.Prelude.{ℕ, ◌<◌, ◌≡◌, Bool, true, false, List, Option, Some, None}
use Rattle.pages.specs.Listing.{Entry}
use Rattle.vetting.specs.declared.lacks.Lack.{Lack}
use Rattle.vetting.specs.work.Bits.{Has}
use Rattle.vetting.specs.work.Lines.{InBlock, Slot}

-- the set of a block has the pair a, b
pub record InSet (n from : ℕ) (bits : List ℕ) (a b : ℕ) : Type 0 where
  pub has : (p : ℕ) → Slot n from a b p → Has bits p

-- below which first node a pair would come before the one that is known
abbrev pub open_to : ℕ → Option Lack → ℕ
open_to n None = n
open_to n (Some k) = k.low

-- entries with P whose pairs are found where Found says so: in the set of a block, or in a row of the list
module _ (P : Entry → Type 0) (Found : ℕ → ℕ → Type 0) where
  -- an entry with P has the pair a, b, and it is not found
  pub record Lacks (a b : ℕ) : Type 0 where
    pub entry : Entry
    pub belongs : P entry
    pub low : entry.low ≡ a
    pub high : entry.high ≡ b
    pub unfound : ¬ Found a b

  -- if an entry with P has the pair a, b, it is found
  pub record Covered (a b : ℕ) : Type 0 where
    pub found : (e : Entry) → P e → e.low ≡ a → e.high ≡ b → Found a b

  pub record LackTold (a b : ℕ) (r : Bool) : Type 0 where
    pub lacks : r ≡ true → Lacks a b
    pub covered : r ≡ false → Covered a b

  -- no pair of first node a with a second node below b is lacking
  abbrev pub CoveredTo : ℕ → ℕ → Type 0
  CoveredTo b a = (v : ℕ) → a < v → v < b → Covered a v

  -- of first node a, b is the first second node whose pair is lacking
  pub record LacksFirst (n a b : ℕ) : Type 0 where
    pub within : b < n
    pub before : CoveredTo b a
    pub here : Lacks a b

  abbrev pub FirstHigh : ℕ → ℕ → Option ℕ → Type 0
  FirstHigh n a None = CoveredTo n a
  FirstHigh n a (Some b) = LacksFirst n a b

  -- the same where a is a first node of the block, and none where it is not
  pub record BlockHigh (n from end a : ℕ) (r : Option ℕ) : Type 0 where
    pub inside : InBlock n from end a → FirstHigh n a r
    pub outside : ¬ InBlock n from end a → r ≡ None

  -- of the first nodes with D below u no pair is lacking
  abbrev pub CoveredBelow : ℕ → (ℕ → Type 0) → ℕ → Type 0
  CoveredBelow n D u = (a : ℕ) → a < u → D a → CoveredTo n a

  -- of the first nodes with D: the first pair that is lacking
  pub record FirstOf (n : ℕ) (D : ℕ → Type 0) (k : Lack) : Type 0 where
    pub known : D k.low
    pub node : k.low < n
    pub lines : CoveredBelow n D k.low
    pub first : LacksFirst n k.low k.high

  abbrev pub FirstLack : ℕ → (ℕ → Type 0) → Option Lack → Type 0
  FirstLack n D None = CoveredBelow n D n
  FirstLack n D (Some k) = FirstOf n D k

  -- the first pair of a block's first nodes that is lacking, where it comes before the one that is known, or that one
  pub data BlockLack (n from end : ℕ) (u r : Option Lack) : Type 0 where
    found : (k : Lack) → r ≡ Some k → k.low < open_to n u → FirstOf n (InBlock n from end) k → BlockLack n from end u r
    kept : r ≡ u → CoveredBelow n (InBlock n from end) (open_to n u) → BlockLack n from end u r
