-- Two texts: 25 over both, then 26 over both; and how an operation that begins so hands a refusal on or goes on. A text
-- of fewer than 2^64 bytes says fewer arcs than 10^19, so a count that is carried compares right with their number.
use mathlib.Core.Path.{◌≡◌, sym, ◌∙◌}
use mathlib.Core.List.{List}
use Prim.Native.Nat.{ℕ, ◌*◌, ◌≤◌, ◌<◌}
use native.Mathlib.Omega.{arith}
use lib.ListN.{length, length-drop}
use Rattle.std.proofs.Common.{Some, None, Ok, Err}
use Rattle.table.specs.Refuse.{passed}
use Rattle.table.specs.Refuse as refuse
use Rattle.table.proofs.Refusals.{unless_map}
use Rattle.roads.specs.Text.{Said}
use Rattle.roads.specs.Both.{Reads, unread, read}
use Rattle.roads.specs.work.Whole.{Surveyed, SurveyOf, whole, silent, BothSay, TextsOf, agreed, refused}
use Rattle.roads.specs.declared.whole.Survey.{Survey}
use Rattle.roads.specs.declared.whole.Texts.{Texts}
use Rattle.roads.proofs.Stepping.{lines_long, nodes_fit}

survey_few : {top low : ℕ} {s : List ℕ} {o : Survey} → Surveyed top low s o → 8 * o.arcs ≤ length s
survey_few {s = s} {o = o} a = omega (arith, a.arcs, lines_long a.lines, length-drop o.first s)

module _ {s w : List ℕ} where
  pub unread_lengths : SurveyOf 4294967295 0 s None → TextsOf s w (Err 25)
  unread_lengths (silent f) = refused (unread (λ a b x y. f a x))

  pub unread_weights : SurveyOf 2147483647 2147483648 w None → TextsOf s w (Err 25)
  unread_weights (silent f) = refused (unread (λ a b x y. f b y))

  module _ {x y : Survey} (short : length s < 18446744073709551616)
      (brief : length w < 18446744073709551616) where
    pub disagree : SurveyOf 4294967295 0 s (Some x) → SurveyOf 2147483647 2147483648 w (Some y)
        → (x.nodes ≡ y.nodes → x.count ≡ y.count → x.count ≡ x.arcs → y.count ≡ y.arcs → ⊥) → TextsOf s w (Err 26)
    disagree (whole a) (whole b) f = refused (read a.says b.says (refuse.refused λ g. f
        (a.nodes ∙ g.nodes ∙ sym b.nodes)
        (omega (arith, g.count, a.count, b.count))
        (omega (arith, g.lengths, a.count, a.arcs, survey_few a))
        (omega (arith, g.weights, b.count, b.arcs, survey_few b))))

    pub agree : SurveyOf 4294967295 0 s (Some x) → SurveyOf 2147483647 2147483648 w (Some y)
        → x.nodes ≡ y.nodes → x.count ≡ y.count → x.count ≡ x.arcs → y.count ≡ y.arcs
        → TextsOf s w (Ok (record { nodes = x.nodes; arcs = x.arcs; lengths = x.first; weights = y.first }))
    agree (whole a) (whole b) e f g h = agreed (record {
      lengths = a.said;
      weights = b.said;
      lengths_said = a.says;
      weights_said = b.says;
      agree = record {
        lengths = omega (arith, a.count, a.arcs, survey_few a);
        weights = omega (arith, b.count, b.arcs, survey_few b);
        nodes = sym a.nodes ∙ e ∙ b.nodes;
        count = omega (arith, a.count, b.count, a.arcs, survey_few a, b.arcs, survey_few b);
      };
      nodes = a.nodes;
      arcs = a.arcs;
      few = survey_few a;
      length_lines = a.lines;
      weight_lines = rw e b.lines;
    })

-- an operation that begins so
module _ {A : Type 0} {refusal : ℕ → A} {s w : List ℕ} {rest : Said → Said → A → Type 0} where
  pub refused_on : {k : ℕ} → TextsOf s w (Err k) → Reads A refusal s w rest (refusal k)
  refused_on (refused (unread n)) = unread n
  refused_on (refused (read x y u)) = read x y (unless_map refusal (λ k f. absurd f) u)

  pub agreed_on : {n k i j : ℕ} {x : A} (b : BothSay s w n k i j) → rest b.lengths b.weights x
      → Reads A refusal s w rest x
  agreed_on b r = read b.lengths_said b.weights_said (passed b.agree r)

pub both_say : {s w : List ℕ} {o : Texts} → TextsOf s w (Ok o) → BothSay s w o.nodes o.arcs o.lengths o.weights
both_say (agreed b) = b

module _ {s w : List ℕ} {n k i j : ℕ} where
  pub both_nodes : BothSay s w n k i j → n ≤ 65535
  both_nodes b = omega (arith, b.nodes, nodes_fit b.lengths_said)

  -- the two texts say as many arcs
  pub both_arcs : (b : BothSay s w n k i j) → k ≡ length b.weights.arcs
  both_arcs b = b.arcs ∙ sym b.agree.lengths ∙ b.agree.count ∙ b.agree.weights
