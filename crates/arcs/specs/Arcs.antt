-- The arcs that a text says, and what refusals 27 and 28 ask of them.
use Rattle.std.specs.Prelude.{ℕ, ◌<◌, ◌≡◌, ◌⊎◌, ◌≢◌, List, length, get_or}
use Rattle.roads.specs.Text.{Arc}

-- arc i, of `count` in all, goes from node `from i` to node `to i` and carries `number i`
pub record Arcs : Type 0 where
  pub from : ℕ → ℕ
  pub to : ℕ → ℕ
  pub number : ℕ → ℕ
  pub count : ℕ

abbrev pub no_arc : Arc
no_arc = record { from = 0; to = 0; number = 0 }

-- the arcs of a list, from arc 0 on
unfoldable pub arcs_of : List Arc → Arcs
arcs_of l =
    record {
      from = λ i. (get_or l i no_arc).from;
      to = λ i. (get_or l i no_arc).to;
      number = λ i. (get_or l i no_arc).number;
      count = length l;
    }

-- an arc given twice: the same two nodes in the same order, whatever the numbers
pub record Twice (A : Arcs) : Type 0 where
  pub one : ℕ
  pub other : ℕ
  pub before : one < other
  pub within : other < A.count
  pub leaves : A.from one ≡ A.from other
  pub leads : A.to one ≡ A.to other

-- an arc from a node to itself
pub record Loop (A : Arcs) : Type 0 where
  pub arc : ℕ
  pub within : arc < A.count
  pub itself : A.from arc ≡ A.to arc

-- arc j is arc i's opposite, with equal number
pub record Opposite (A : Arcs) (i j : ℕ) : Type 0 where
  pub within : j < A.count
  pub leaves : A.from j ≡ A.to i
  pub leads : A.to j ≡ A.from i
  pub equal : A.number j ≡ A.number i

-- an arc without its equal opposite
pub record Unmatched (A : Arcs) : Type 0 where
  pub arc : ℕ
  pub within : arc < A.count
  pub none : (j : ℕ) → ¬ Opposite A arc j

-- 27
abbrev pub Faulty : Arcs → Type 0
Faulty A = Twice A ⊎ (Loop A ⊎ Unmatched A)

-- the same by the good condition: each of the two is the other's contrary (`twenty_seven`, proofs/Theorems)
pub record Paired (A : Arcs) : Type 0 where
  pub once : (i j : ℕ) → i < A.count → j < A.count → A.from i ≡ A.from j → A.to i ≡ A.to j → i ≡ j
  pub apart : (i : ℕ) → i < A.count → A.from i ≢ A.to i
  pub opposite : (i : ℕ) → i < A.count → (j : ℕ) × Opposite A i j

-- arc i is one of the two arcs of the branch between a and b
abbrev pub AlongBranch : Arcs → ℕ → ℕ → ℕ → Type 0
AlongBranch A i a b = ((A.from i ≡ a) × (A.to i ≡ b)) ⊎ ((A.from i ≡ b) × (A.to i ≡ a))

-- the text names the branch between a and b
pub record Names (A : Arcs) (a b : ℕ) : Type 0 where
  pub arc : ℕ
  pub within : arc < A.count
  pub along : AlongBranch A arc a b

-- two texts name the same branches
pub record SameBranches (A B : Arcs) : Type 0 where
  pub there : (a b : ℕ) → Names A a b → Names B a b
  pub back : (a b : ℕ) → Names B a b → Names A a b

-- 28, the contrary (`twenty_eight`, proofs/Theorems): a branch that one of the two texts names and the other does not
pub record Differ (A B : Arcs) : Type 0 where
  pub a : ℕ
  pub b : ℕ
  pub one_only : (Names A a b × ¬ Names B a b) ⊎ (Names B a b × ¬ Names A a b)
