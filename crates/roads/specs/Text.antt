-- What a road-graph text says: lines, each ended by a line feed (byte 10), whose fields are parted by one space (byte
-- 32). A text says one thing at the most (`says_only`, proofs/Only).
use Rattle.std.specs.Prelude.{◌≡◌, List, [], ◌∷◌, ◌++◌, ℕ, ◌≤◌}
use Rattle.text.specs.Word.{word}
use Rattle.roads.specs.Number.{Field, ArcNumber}

-- no line feed among the bytes
pub data Plain : List ℕ → Type 0 where
  none : Plain []
  next : {b : ℕ} {t : List ℕ} → (b ≡ 10 → ⊥) → Plain t → Plain (b ∷ t)

-- an arc: two nodes, counted from 1, and a number, as the 32 bits of its field in a table
pub record Arc : Type 0 where
  pub from : ℕ
  pub to : ℕ
  pub number : ℕ

-- s begins with a line whose first byte is c (99), whatever else is in it; r is what follows the line
pub record Comment (s r : List ℕ) : Type 0 where
  pub said : List ℕ
  pub spelt : s ≡ 99 ∷ said ++ 10 ∷ r
  pub plain : Plain said

-- s begins with the line `p sp n m`; n fits a table's node count, m is any number
pub record Problem (s : List ℕ) (n m : ℕ) (r : List ℕ) : Type 0 where
  pub first : List ℕ
  pub second : List ℕ
  pub spelt : s ≡ word "p sp " ++ first
  pub nodes : Field n 32 first second
  pub count : Field m 10 second r
  pub fits : n ≤ 65535

-- a node from 1 to n
pub record Node (n u : ℕ) : Type 0 where
  pub low : 1 ≤ u
  pub high : u ≤ n

-- s begins with the line `a u v x` of an arc between nodes from 1 to n, with a number from −low to top
pub record ArcLine (top low n : ℕ) (s : List ℕ) (e : Arc) (r : List ℕ) : Type 0 where
  pub first : List ℕ
  pub second : List ℕ
  pub third : List ℕ
  pub spelt : s ≡ word "a " ++ first
  pub from : Field e.from 32 first second
  pub to : Field e.to 32 second third
  pub number : ArcNumber top low e.number third r
  pub from_node : Node n e.from
  pub to_node : Node n e.to

-- the lines after the p line, to the end of the text: comments, and the arcs that they say
pub data Lines (top low n : ℕ) : List ℕ → List Arc → Type 0 where
  done : Lines top low n [] []
  comment : {s r : List ℕ} {l : List Arc} → Comment s r → Lines top low n r l → Lines top low n s l
  arc : {s r : List ℕ} {e : Arc} {l : List Arc} → ArcLine top low n s e r → Lines top low n r l
      → Lines top low n s (e ∷ l)

-- what a text says: the two numbers of its p line, and its arcs in order
pub record Said : Type 0 where
  pub nodes : ℕ
  pub count : ℕ
  pub arcs : List Arc

-- a whole text: comments, the p line, and the lines after it. A text for which there is no such reading has a line of
-- another form or in the wrong place, no p line, a last line without its line feed, a number too big for its field, or
-- a node outside 1 to the node count
pub data Says (top low : ℕ) : List ℕ → Said → Type 0 where
  comment : {s r : List ℕ} {a : Said} → Comment s r → Says top low r a → Says top low s a
  problem : {s r : List ℕ} {n m : ℕ} {l : List Arc} → Problem s n m r → Lines top low n r l
      → Says top low s (record { nodes = n; count = m; arcs = l })

-- lengths are 32 bits unsigned, weights 32 bits signed
abbrev pub Lengths : List ℕ → Said → Type 0
Lengths = Says 4294967295 0

abbrev pub Weights : List ℕ → Said → Type 0
Weights = Says 2147483647 2147483648
