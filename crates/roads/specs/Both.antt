-- Two texts, one with lengths and one with weights: refusals 25 and 26, each over both before the next.
use Rattle.std.specs.Prelude.{◌≡◌, List, ℕ, length}
use Rattle.table.specs.Refuse.{Unless}
use Rattle.roads.specs.Text.{Said, Lengths, Weights}

-- each p line's count is the number of its text's arcs, and the two p lines are the same
pub record Agree (a b : Said) : Type 0 where
  pub lengths : a.count ≡ length a.arcs
  pub weights : b.count ≡ length b.arcs
  pub nodes : a.nodes ≡ b.nodes
  pub count : a.count ≡ b.count

-- 25 where one of the two texts says nothing; 26 where what they say does not agree; and then as the rest says of it
pub data Reads (A : Type 0) (refusal : ℕ → A) (s w : List ℕ) (rest : Said → Said → A → Type 0) : A → Type 0 where
  unread : ((a b : Said) → Lengths s a → Weights w b → ⊥) → Reads A refusal s w rest (refusal 25)
  read : {a b : Said} {x : A} → Lengths s a → Weights w b → Unless A (refusal 26) (Agree a b) (rest a b) x
      → Reads A refusal s w rest x
