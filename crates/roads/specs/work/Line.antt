-- Lines read at a place of a text s. A place i stands for `drop i s`, what the text has from there on.
use Rattle.std.specs.Prelude.{◌≡◌, List, ◌∷◌, ◌++◌, ℕ, ◌≤◌, ◌<◌, drop, Option, Some, None}
use Rattle.roads.specs.Text.{Plain, Arc, Comment, Problem, ArcLine}
use Rattle.roads.specs.work.Scanned.{Carries, Further}
use Rattle.roads.specs.declared.line.Kind.{Kind}
use Rattle.roads.specs.declared.line.Counts.{Counts}
use Rattle.roads.specs.declared.line.Step.{Step}

-- a kind's nodes and numbers fit their fields
pub record KindFits (kind : Kind) : Type 0 where
  pub nodes_fit : kind.nodes < 65536
  pub top_fits : kind.top < 4294967296
  pub low_fits : kind.low < 4294967296

-- the first line feed from a place on, or that there is none
pub data EndOf (s : List ℕ) (at : ℕ) : Option ℕ → Type 0 where
  ended : {next : ℕ} (said : List ℕ) → drop at s ≡ said ++ 10 ∷ drop next s → Plain said → Further s at next
      → EndOf s at (Some next)
  unended : ((said r : List ℕ) → drop at s ≡ said ++ 10 ∷ r → ⊥) → EndOf s at None

-- a word at a place, or that it does not stand there
pub data WordOf (s : List ℕ) (at : ℕ) (w : List ℕ) : Option ℕ → Type 0 where
  stands : {next : ℕ} → drop at s ≡ w ++ drop next s → Further s at next → WordOf s at w (Some next)
  elsewhere : ((r : List ℕ) → drop at s ≡ w ++ r → ⊥) → WordOf s at w None

-- comments alone lead from s to r
pub data Comments : List ℕ → List ℕ → Type 0 where
  none : {s : List ℕ} → Comments s s
  more : {s q r : List ℕ} → Comments s q → Comment q r → Comments s r

-- from place `at` on comments alone stand before place `next`, and no comment stands there
pub record PastComments (s : List ℕ) (at next : ℕ) : Type 0 where
  pub comments : Comments (drop at s) (drop next s)
  pub no_comment : (r : List ℕ) → Comment (drop next s) r → ⊥
  pub on : at ≤ next

-- the p line at a place, or that there is none
pub data ProblemOf (s : List ℕ) (at : ℕ) : Option Counts → Type 0 where
  counts : {m : ℕ} {o : Counts} → Problem (drop at s) o.nodes m (drop o.next s) → Carries o.count m
      → Further s at o.next → ProblemOf s at (Some o)
  missing : ((n m : ℕ) (r : List ℕ) → Problem (drop at s) n m r → ⊥) → ProblemOf s at None

abbrev pub arc_of : ℕ → ℕ → ℕ → Arc
arc_of u v x = record { from = u; to = v; number = x }

-- the line of an arc at a place, or that there is none
pub data ArcOf (top low n : ℕ) (s : List ℕ) (at : ℕ) : Option Step → Type 0 where
  joins : {o : Step} → ArcLine top low n (drop at s) (arc_of o.from o.to o.number) (drop o.next s)
      → Further s at o.next → ArcOf top low n s at (Some o)
  other : ((e : Arc) (r : List ℕ) → ArcLine top low n (drop at s) e r → ⊥) → ArcOf top low n s at None
