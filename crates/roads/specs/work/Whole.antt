-- Whole texts, by places. A place i of a text s stands for `drop i s`, what the text has from there on.
use Rattle.std.specs.Prelude.{◌≡◌, List, ◌∷◌, ℕ, ◌*◌, ◌≤◌, ◌<◌, length, drop, Option, Some, None, Result, Ok, Err}
use Rattle.roads.specs.Text.{Arc, ArcLine, Node, Lines, Said, Says, Lengths, Weights}
use Rattle.roads.specs.Both.{Agree, Reads}
use Rattle.roads.specs.work.Scanned.{Carries, Further}
use Rattle.roads.specs.work.Line.{Comments, arc_of}
use Rattle.roads.specs.declared.line.Step.{Step}
use Rattle.roads.specs.declared.whole.Survey.{Survey}
use Rattle.roads.specs.declared.whole.Texts.{Texts}

-- the next arc from a place on, after comments alone; or that no arc follows
pub data StepOf (top low n : ℕ) (s : List ℕ) (at : ℕ) : Option Step → Type 0 where
  to : {o : Step} {q : List ℕ} → Comments (drop at s) q
      → ArcLine top low n q (arc_of o.from o.to o.number) (drop o.next s) → Further s at o.next
      → StepOf top low n s at (Some o)
  end : ((e : Arc) (l : List Arc) → Lines top low n (drop at s) (e ∷ l) → ⊥) → StepOf top low n s at None

-- what is known of an arc that a text says: its nodes are from 1 to n, and its number has 32 bits
pub record ArcFits (n : ℕ) (e : Arc) : Type 0 where
  pub from : Node n e.from
  pub to : Node n e.to
  pub bits : e.number < 4294967296

-- how many arcs the lines from a place to the end say; or that they say none
pub data CountOf (top low n : ℕ) (s : List ℕ) (first : ℕ) : Option ℕ → Type 0 where
  arcs : {k : ℕ} {l : List Arc} → Lines top low n (drop first s) l → k ≡ length l
      → CountOf top low n s first (Some k)
  broken : ((l : List Arc) → Lines top low n (drop first s) l → ⊥) → CountOf top low n s first None

-- what a text says, in numbers: its nodes, the number that stands for its count, and its arcs, which the lines from
-- place `first` on say
pub record Surveyed (top low : ℕ) (s : List ℕ) (o : Survey) : Type 0 where
  pub said : Said
  pub says : Says top low s said
  pub nodes : o.nodes ≡ said.nodes
  pub count : Carries o.count said.count
  pub arcs : o.arcs ≡ length said.arcs
  pub lines : Lines top low o.nodes (drop o.first s) said.arcs

pub data SurveyOf (top low : ℕ) (s : List ℕ) : Option Survey → Type 0 where
  whole : {o : Survey} → Surveyed top low s o → SurveyOf top low s (Some o)
  silent : ((a : Said) → Says top low s a → ⊥) → SurveyOf top low s None

-- what two texts say that agree, in numbers: n nodes, k arcs each, which the lines from place i and from place j on
-- say. An arc's line has 8 bytes or more
pub record BothSay (s w : List ℕ) (n k i j : ℕ) : Type 0 where
  pub lengths : Said
  pub weights : Said
  pub lengths_said : Lengths s lengths
  pub weights_said : Weights w weights
  pub agree : Agree lengths weights
  pub nodes : n ≡ lengths.nodes
  pub arcs : k ≡ length lengths.arcs
  pub few : 8 * k ≤ length s
  pub length_lines : Lines 4294967295 0 n (drop i s) lengths.arcs
  pub weight_lines : Lines 2147483647 2147483648 n (drop j w) weights.arcs

-- two texts that agree; or which of 25 and 26 comes first
pub data TextsOf (s w : List ℕ) : Result Texts ℕ → Type 0 where
  agreed : {o : Texts} → BothSay s w o.nodes o.arcs o.lengths o.weights → TextsOf s w (Ok o)
  refused : {k : ℕ} → Reads ℕ (λ x. x) s w (λ a b x. ⊥) k → TextsOf s w (Err k)
