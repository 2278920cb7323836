-- From line to line of a text that says something: comments are passed and nothing is lost; at a line that is no
-- comment there is an arc, or the text is at its end; so a step gives the first of the arcs still to come, and the
-- others are said from the place where it leads. What is known of every arc that a text says, and how long its lines
-- are.
use mathlib.Core.Path.{◌≡◌, refl, ap}
use mathlib.Core.List.{List, [], ◌∷◌}
use Prim.Native.Nat.{ℕ, ◌+◌, ◌*◌, ◌≤◌, ◌<◌}
use native.Mathlib.Omega.{arith}
use lib.ListN.{length, drop, length-append}
use Rattle.std.proofs.Common.{Option, Some, None}
use Rattle.arrays.specs.Members.{In}
use Rattle.arrays.specs.Members as members
use Rattle.text.specs.Word.{word}
use Rattle.roads.specs.Text.{Arc, Comment, Problem, ArcLine, Lines, done, arc, Said, Says, problem}
use Rattle.roads.specs.Text as text
use Rattle.roads.specs.work.Scanned.{Further}
use Rattle.roads.specs.work.Line.{Comments, none, more, PastComments, ArcOf, arc_of, joins, other}
use Rattle.roads.specs.work.Whole.{StepOf, to, end, ArcFits}
use Rattle.roads.specs.declared.line.Step.{Step}
use Rattle.roads.proofs.Fields.{field_long, number_long, number_bits}
use Rattle.roads.proofs.Only.{lines_comment, lines_arc, says_comment}

-- comments say nothing
module _ {top low : ℕ} where
  pub says_up : {s q : List ℕ} {a : Said} → Comments s q → Says top low q a → Says top low s a
  says_up none x = x
  says_up (more c k) x = says_up c (text.Says.comment k x)

  pub says_down : {s q : List ℕ} {a : Said} → Comments s q → Says top low s a → Says top low q a
  says_down none x = x
  says_down (more c k) x = says_comment k (says_down c x)

  -- where no comment stands and no p line, nothing is said
  pub says_other : {s : List ℕ} {a : Said} → ((r : List ℕ) → Comment s r → ⊥)
      → ((n m : ℕ) (r : List ℕ) → Problem s n m r → ⊥) → Says top low s a → ⊥
  says_other f g (text.Says.comment c x) = f _ c
  says_other f g (problem p x) = g _ _ _ p

module _ {top low n : ℕ} where
  pub lines_up : {s q : List ℕ} {l : List Arc} → Comments s q → Lines top low n q l → Lines top low n s l
  lines_up none x = x
  lines_up (more c k) x = lines_up c (text.Lines.comment k x)

  pub lines_down : {s q : List ℕ} {l : List Arc} → Comments s q → Lines top low n s l → Lines top low n q l
  lines_down none x = x
  lines_down (more c k) x = lines_comment k (lines_down c x)

  -- where no comment stands and no arc, the text is at its end
  pub lines_other : {s : List ℕ} {l : List Arc} → ((r : List ℕ) → Comment s r → ⊥)
      → ((e : Arc) (r : List ℕ) → ArcLine top low n s e r → ⊥) → Lines top low n s l → (s ≡ []) × (l ≡ [])
  lines_other f g done = (refl, refl)
  lines_other f g (text.Lines.comment c x) = absurd (f _ c)
  lines_other f g (arc e x) = absurd (g _ _ e)

  -- the code's step
  pub step_read : {s : List ℕ} {at i : ℕ} {q : Option Step} → PastComments s at i → ArcOf top low n s i q
      → StepOf top low n s at q
  step_read p (joins e m) =
      to p.comments e (record { on = omega (arith, p.on, m.on); within = m.within })
  step_read p (other f) = end λ e l x.
      let w = lines_other p.no_comment f (lines_down p.comments x) in
      let z : ◌≡◌ {A = ℕ} 0 1 = cc w.1 in
      omega arith

  -- a step takes the first of the arcs still to come, and where it takes none there is none
  pub step_arcs : {s : List ℕ} {at : ℕ} {o : Step} {e : Arc} {l : List Arc} → StepOf top low n s at (Some o)
      → Lines top low n (drop at s) (e ∷ l)
      → (arc_of o.from o.to o.number ≡ e) × Lines top low n (drop o.next s) l
  step_arcs {l = l} (to c a m) x =
      let w = lines_arc a (lines_down c x) in
      let k : w.0 ≡ l = cc w.1 in
      (cc w.1, rw k at w.2)

  pub step_end : {s : List ℕ} {at : ℕ} {l : List Arc} → StepOf top low n s at None → Lines top low n (drop at s) l
      → l ≡ []
  step_end {l = []} (end f) x = refl
  step_end {l = e ∷ l} (end f) x = absurd (f e l x)

  pub step_past : {s : List ℕ} {at : ℕ} {o : Step} → StepOf top low n s at (Some o)
      → Lines top low n (drop at s) [] → ⊥
  step_past (to c a m) x = let w = lines_arc a (lines_down c x) in let z : ◌≡◌ {A = ℕ} 0 1 = cc w.1 in omega arith

  pub step_further : {s : List ℕ} {at : ℕ} {o : Step} → StepOf top low n s at (Some o) → Further s at o.next
  step_further (to c a m) = m

-- an arc's line has 8 bytes or more
pub arc_long : {top low n : ℕ} {s r : List ℕ} {e : Arc} → ArcLine top low n s e r → 8 + length r ≤ length s
unfolding word
arc_long p = omega (arith, ap length p.spelt, field_long p.from, field_long p.to, number_long p.number)

comment_long : {s r : List ℕ} → Comment s r → length r ≤ length s
comment_long {r = r} c = omega (arith, ap length c.spelt, length-append c.said (10 ∷ r))

module _ {top low n : ℕ} where
  pub lines_long : {s : List ℕ} {l : List Arc} → Lines top low n s l → 8 * length l ≤ length s
  lines_long done = omega arith
  lines_long (text.Lines.comment c x) = omega (arith, comment_long c, lines_long x)
  lines_long (arc e x) = omega (arith, arc_long e, lines_long x)

  arc_fits : {s r : List ℕ} {e : Arc} → top < 4294967296 → ArcLine top low n s e r → ArcFits n e
  arc_fits small a = record { from = a.from_node; to = a.to_node; bits = number_bits small a.number }

  -- the nodes of every arc that is said are from 1 to n, and its number has 32 bits
  pub lines_fit : {s : List ℕ} {l : List Arc} {e : Arc} → top < 4294967296 → Lines top low n s l → In e l → ArcFits n e
  lines_fit small done i = elim i [ ]
  lines_fit small (text.Lines.comment c x) i = lines_fit small x i
  lines_fit small (arc a x) (members.In.at p) = rw p (arc_fits small a)
  lines_fit small (arc a x) (members.In.past i) = lines_fit small x i

-- and n has 16 bits
pub nodes_fit : {top low : ℕ} {s : List ℕ} {a : Said} → Says top low s a → a.nodes ≤ 65535
nodes_fit (text.Says.comment c x) = nodes_fit x
nodes_fit (problem p x) = p.fits
