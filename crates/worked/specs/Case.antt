-- A worked case: an operation's inputs, lent memory among them, and the answer that the documents give for them, with
-- the lent memory afterwards. It holds where these are as the operation's own promise says.
use Rattle.paging.specs.Paging.{Listed}
use Rattle.changes.specs.Change.{Change}
use Rattle.std.specs.Prelude.{ℕ, ◌-◌, List, [], ◌∷◌, ℤ}
use Rattle.table.specs.Header.{nodes_of}
use Rattle.arrays.specs.Members.{In}
use Rattle.net.specs.Net.{first_end, second_end}
use Rattle.accept.specs.Accept.{AcceptOf, AcceptAnswer}
use Rattle.spines.specs.Spine.{ChildOf, Leaf}
use Rattle.spines.specs.Heads.{Headings, HeadsAnswer}
use Rattle.changes.specs.Claim.{Claims}
use Rattle.heaviest.specs.Heaviest.{HeaviestOf, HeaviestExactOf, HeaviestAnswer}
use Rattle.pair.specs.Pair.{PairOf, PairAnswer}
use Rattle.listing.specs.Listing.{ListingOf}

-- the table's net has these leaves and no others
pub record LeavesAre (s nodes : List ℕ) : Type 0 where
  pub only : (x : ℕ) → In x nodes → Leaf (ChildOf (first_end s) (second_end s) (nodes_of s - 1) (nodes_of s))
      (nodes_of s) x
  pub all : (x : ℕ) → Leaf (ChildOf (first_end s) (second_end s) (nodes_of s - 1) (nodes_of s)) (nodes_of s) x
      → In x nodes

pub data Case : Type 0 where
  accept : (s : List ℕ) → AcceptAnswer → Case
  heaviest : (s marks : List ℕ) → HeaviestAnswer → Case
  exact : (s marks : List ℕ) → HeaviestAnswer → Case
  listing : (s marks : List ℕ) (floor : ℤ) (low high : ℕ) (lent : List ℕ) → Listed × List ℕ → Case
  heads : (s lent : List ℕ) → HeadsAnswer × List ℕ → Case
  leaves : (s nodes : List ℕ) → Case
  pair : (s marks : List ℕ) (a b : ℕ) → PairAnswer → Case
  claim : (s marks : List ℕ) (run a b : ℕ) → Change × List ℕ → Case

abbrev pub Holds : Case → Type 0
Holds (accept s o) = AcceptOf s o
Holds (heaviest s marks o) = HeaviestOf s marks o
Holds (exact s marks o) = HeaviestExactOf s marks o
Holds (listing s marks floor low high lent o) = ListingOf s marks floor low high lent o
Holds (heads s lent o) = Headings s lent o
Holds (leaves s nodes) = LeavesAre s nodes
Holds (pair s marks a b o) = PairOf s marks a b o
Holds (claim s marks run a b o) = Claims s marks run a b o

abbrev pub All : List Case → Type 0
All [] = Unit {0}
All (c ∷ l) = Holds c × All l
