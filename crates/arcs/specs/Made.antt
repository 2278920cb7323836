-- The table made of two texts: a row for each branch, in the order of the branches' first arcs in the length text.
use Rattle.std.specs.Prelude.{ℕ, zero, suc, ◌-◌, ◌<◌, ◌≡◌, List, [], ◌∷◌, ◌++◌, length}
use Rattle.numbers.specs.Bytes.{bytes}
use Rattle.text.specs.Word.{word}
use Rattle.roads.specs.Text.{Said}
use Rattle.arcs.specs.Arcs.{Arcs, arcs_of, AlongBranch}

-- an arc before arc j has its branch
pub record Earlier (A : Arcs) (j : ℕ) : Type 0 where
  pub arc : ℕ
  pub before : arc < j
  pub along : AlongBranch A arc (A.from j) (A.to j)

-- the branches' first arcs among the arcs before j, in their order
pub data Firsts (A : Arcs) : ℕ → List ℕ → Type 0 where
  none : Firsts A zero []
  again : {j : ℕ} {l : List ℕ} → Firsts A j l → Earlier A j → Firsts A (suc j) l
  new : {j : ℕ} {l : List ℕ} → Firsts A j l → ¬ Earlier A j → Firsts A (suc j) (l ++ (j ∷ []))

-- the fields of a row of version 1: two nodes, counted from 0, and two numbers of 32 bits
pub record RowFields : Type 0 where
  pub a : ℕ
  pub b : ℕ
  pub length : ℕ
  pub weight : ℕ

-- the row of arc j of the length text: its nodes less 1 in its order, its length, and the weight that the weight text
-- has for its branch
pub record BranchRow (L M : Arcs) (j : ℕ) (f : RowFields) : Type 0 where
  pub first : f.a ≡ L.from j - 1
  pub second : f.b ≡ L.to j - 1
  pub long : f.length ≡ L.number j
  pub arc : ℕ
  pub within : arc < M.count
  pub along : AlongBranch M arc (L.from j) (L.to j)
  pub heavy : f.weight ≡ M.number arc

-- a row for each of these arcs
pub data BranchRows (L M : Arcs) : List ℕ → List RowFields → Type 0 where
  none : BranchRows L M [] []
  more : {j : ℕ} {f : RowFields} {js : List ℕ} {fs : List RowFields} → BranchRow L M j f → BranchRows L M js fs
      → BranchRows L M (j ∷ js) (f ∷ fs)

-- a row's 12 bytes, and those of rows one after the other
unfoldable pub row_bytes : RowFields → List ℕ
row_bytes f = bytes 2 f.a ++ bytes 2 f.b ++ bytes 4 f.length ++ bytes 4 f.weight

unfoldable pub rows_bytes : List RowFields → List ℕ
rows_bytes [] = []
rows_bytes (f ∷ fs) = row_bytes f ++ rows_bytes fs

-- the 12 bytes of the header of a version 1 table: letters, version, node count, reserved, wire bound
unfoldable pub header_bytes : ℕ → ℕ → List ℕ
header_bytes n bound = word "RTN" ++ bytes 2 1 ++ bytes 2 n ++ bytes 1 0 ++ bytes 4 bound

-- t is the table of two texts that say a and b, with this wire bound
pub record TableOf (a b : Said) (bound : ℕ) (t : List ℕ) : Type 0 where
  pub firsts : List ℕ
  pub order : Firsts (arcs_of a.arcs) (length a.arcs) firsts
  pub rows : List RowFields
  pub each : BranchRows (arcs_of a.arcs) (arcs_of b.arcs) firsts rows
  pub is : t ≡ header_bytes a.nodes bound ++ rows_bytes rows
