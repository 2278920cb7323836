-- One text in numbers. The loop over its arcs keeps both ways: what the lines still to come say, with the arcs counted
-- before it, is said by all; and whatever all say begins with those. So where a line is bad nothing is said at all, and
-- at the end the arcs counted are what is said.
use mathlib.Core.Path.{◌≡◌, refl, ap, ◌∙◌}
use mathlib.Core.List.{List, [], ◌∷◌, ◌++◌, append_assoc, append-nil}
use Prim.Native.Nat.{ℕ, ◌+◌, ◌*◌, ◌≤◌, ◌<◌}
use native.Mathlib.Omega.{arith}
use lib.ListN.{length, drop, length-append, length-drop, drop_of_length-le}
use Rattle.std.proofs.Common.{Some, None}
use Rattle.roads.specs.Text.{Arc, Comment, Lines, done, arc, problem}
use Rattle.roads.specs.work.Scanned.{Further}
use Rattle.roads.specs.work.Line.{PastComments, ProblemOf, counts, missing, ArcOf, arc_of, joins, other}
use Rattle.roads.specs.work.Whole.{CountOf, arcs, broken, SurveyOf, whole, silent}
use Rattle.roads.specs.declared.line.Counts.{Counts}
use Rattle.roads.specs.declared.line.Step.{Step}
use Rattle.roads.proofs.Only.{lines_arc, says_problem}
use Rattle.roads.proofs.Stepping.{says_up, says_down, says_other, lines_up, lines_down, lines_other, arc_long}

-- the lines from place `first` up to i say k arcs
pub record Counting (top low n : ℕ) (s : List ℕ) (first i k : ℕ) : Type 0 where
  pub said : List Arc
  pub count : k ≡ length said
  pub few : 8 * k ≤ i
  pub no_comment : (r : List ℕ) → Comment (drop i s) r → ⊥
  pub up : (l : List Arc) → Lines top low n (drop i s) l → Lines top low n (drop first s) (said ++ l)
  pub down : (l : List Arc) → Lines top low n (drop first s) l
      → (k : List Arc) × (l ≡ said ++ k) × Lines top low n (drop i s) k

pub counting_none : (top low n : ℕ) {s : List ℕ} {first i : ℕ} → PastComments s first i → Counting top low n s first i 0
counting_none top low n p = record {
  said = [];
  count = refl;
  few = omega arith;
  no_comment = p.no_comment;
  up = λ l x. lines_up p.comments x;
  down = λ l x. (l, refl, lines_down p.comments x);
}

module _ {top low n : ℕ} {s : List ℕ} {first i k : ℕ} (c : Counting top low n s first i k) where
  pub counting_more : {o : Step} {j : ℕ} → ArcOf top low n s i (Some o) → PastComments s o.next j
      → Counting top low n s first j (k + 1)
  counting_more {o} {j} (joins a m) p =
      let e = arc_of o.from o.to o.number in
      record {
        said = c.said ++ e ∷ [];
        count = omega (arith, c.count, length-append c.said (e ∷ []));
        few = omega (arith, c.few, arc_long a, length-drop i s, length-drop o.next s, m.on, m.within, p.on);
        no_comment = p.no_comment;
        up = λ l y. rw (append_assoc c.said (e ∷ []) l) (c.up (e ∷ l) (arc a (lines_up p.comments y)));
        down = λ l y.
            let h = c.down l y in
            let g = lines_arc a h.2 in
            (g.0, h.1 ∙ rw (append_assoc c.said (e ∷ []) g.0, ← g.1) refl, lines_down p.comments g.2);
      }

  pub counting_bad : i < length s → ArcOf top low n s i None → CountOf top low n s first None
  counting_bad h (other f) = broken λ l x.
      let w = lines_other c.no_comment f (c.down l x).2 in omega (arith, ap length w.0, length-drop i s)

  pub counting_done : length s ≤ i → CountOf top low n s first (Some k)
  counting_done h =
      let e : drop i s ≡ [] = drop_of_length-le s h in
      let d : Lines top low n (drop i s) [] = rw e done in
      arcs {k = k} (c.up [] d) (rw (append-nil c.said) c.count)

pub arc_further : {top low n : ℕ} {s : List ℕ} {at : ℕ} {o : Step} → ArcOf top low n s at (Some o)
    → Further s at o.next
arc_further (joins a m) = m

-- the p line, and then the arcs
module _ {top low : ℕ} {s : List ℕ} {i : ℕ} (p : PastComments s 0 i) where
  pub survey_headless : ProblemOf s i None → SurveyOf top low s None
  survey_headless (missing f) = silent λ a x. says_other p.no_comment f (says_down p.comments x)

  pub survey_broken : {o : Counts} → ProblemOf s i (Some o) → CountOf top low o.nodes s o.next None
      → SurveyOf top low s None
  survey_broken (counts q _ _) (broken f) = silent λ a x.
      let w = says_problem q (says_down p.comments x) in f w.0 w.2

  pub survey_whole : {o : Counts} {k : ℕ} → ProblemOf s i (Some o) → CountOf top low o.nodes s o.next (Some k)
      → SurveyOf top low s (Some (record { nodes = o.nodes; count = o.count; first = o.next; arcs = k }))
  survey_whole {o} (counts {m = m} q c _) (arcs {l = l} x e) = whole (record {
    said = record { nodes = o.nodes; count = m; arcs = l };
    says = says_up p.comments (problem q x);
    nodes = refl;
    count = c;
    arcs = e;
    lines = x;
  })
