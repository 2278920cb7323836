-- A text says one thing, and two texts have one outcome: a line is of one form, by its first byte; in it a number and
-- what follows it are one; a comment goes up to its first line feed; so line by line nothing is left open.
use mathlib.Core.Path.{◌≡◌, refl, sym, ◌∙◌}
use mathlib.Core.List.{List, [], ◌∷◌, ◌++◌}
use Prim.Native.Nat.{ℕ}
use native.Mathlib.Omega.{arith}
use Rattle.table.specs.Refuse.{Only}
use Rattle.table.proofs.Refusals.{unless_only}
use Rattle.text.specs.Word.{word}
use Rattle.roads.specs.Text.{
  Plain,
  none,
  next,
  Arc,
  Comment,
  Problem,
  ArcLine,
  Lines,
  done,
  arc,
  Said,
  Says,
  problem,
}
use Rattle.roads.specs.Text as text
use Rattle.roads.specs.Both.{Reads, unread, read}
use Rattle.roads.proofs.Places.{empty_not}
use Rattle.roads.proofs.Fields.{field_only, number_only}
use Rattle.roads.proofs.Reading.{word_cancel}

-- a line is of one form
same_byte : {b c : ℕ} {s p q : List ℕ} → s ≡ b ∷ p → s ≡ c ∷ q → b ≡ c
same_byte e f = cc

comment_no_problem : {s r q : List ℕ} {n m : ℕ} → Comment s r → Problem s n m q → ⊥
unfolding word
comment_no_problem c p = omega (arith, same_byte {b = 99} {c = 112} c.spelt p.spelt)

comment_no_arc : {top low n : ℕ} {s r q : List ℕ} {e : Arc} → Comment s r → ArcLine top low n s e q → ⊥
unfolding word
comment_no_arc c p = omega (arith, same_byte {b = 99} {c = 97} c.spelt p.spelt)

some_comment : {s r : List ℕ} → Comment s r → s ≡ [] → ⊥
some_comment c e = empty_not e c.spelt

some_arc : {top low n : ℕ} {s r : List ℕ} {e : Arc} → ArcLine top low n s e r → s ≡ [] → ⊥
unfolding word
some_arc p e = empty_not e p.spelt

-- and says one thing
plain_split : {t u p q : List ℕ} → Plain t → Plain u → t ++ 10 ∷ p ≡ u ++ 10 ∷ q → p ≡ q
plain_split none none e = cc
plain_split none (next n p) e = absurd (n (cc))
plain_split (next n p) none e = absurd (n (cc))
plain_split {t = b ∷ t} {u = c ∷ u} {p} {q} (next n x) (next m y) e =
    let f : t ++ 10 ∷ p ≡ u ++ 10 ∷ q = cc in plain_split x y f

pub comment_only : {s r q : List ℕ} → Comment s r → Comment s q → r ≡ q
comment_only {r = r} {q = q} c d =
    let e : c.said ++ 10 ∷ r ≡ d.said ++ 10 ∷ q = cc (c.spelt, d.spelt) in plain_split c.plain d.plain e

pub problem_only : {s r q : List ℕ} {n m k j : ℕ} → Problem s n m r → Problem s k j q → (n ≡ k) × (m ≡ j) × (r ≡ q)
problem_only c d =
    let e = word_cancel (word "p sp ") d.first c.first (sym d.spelt ∙ c.spelt) in
    let w = field_only (omega arith) c.nodes (rw e at d.nodes) in
    let v = field_only (omega arith) c.count (rw (sym w.1) at d.count) in
    (w.0, v.0, v.1)

pub arc_only : {top low n : ℕ} {s r q : List ℕ} {a b : Arc} → ArcLine top low n s a r → ArcLine top low n s b q
    → (a ≡ b) × (r ≡ q)
arc_only c d =
    let e = word_cancel (word "a ") d.first c.first (sym d.spelt ∙ c.spelt) in
    let w = field_only (omega arith) c.from (rw e at d.from) in
    let v = field_only (omega arith) c.to (rw (sym w.1) at d.to) in
    let u = number_only c.number (rw (sym v.1) at d.number) in
    ((λ i. record { from = w.0 i; to = v.0 i; number = u.0 i }), u.1)

-- what is said after a line that is known
module _ {top low n : ℕ} where
  pub lines_comment : {s r : List ℕ} {l : List Arc} → Comment s r → Lines top low n s l → Lines top low n r l
  lines_comment c done = absurd (some_comment c refl)
  lines_comment c (text.Lines.comment d x) = rw (comment_only d c) at x
  lines_comment c (arc e x) = absurd (comment_no_arc c e)

  pub lines_arc : {s r : List ℕ} {l : List Arc} {e : Arc} → ArcLine top low n s e r → Lines top low n s l
      → (k : List Arc) × (l ≡ e ∷ k) × Lines top low n r k
  lines_arc c done = absurd (some_arc c refl)
  lines_arc c (text.Lines.comment d x) = absurd (comment_no_arc d c)
  lines_arc c (arc {l = k} d x) = let w = arc_only d c in (k, cc w.0, rw w.1 at x)

  pub lines_none : {s : List ℕ} {l : List Arc} → s ≡ [] → Lines top low n s l → l ≡ []
  lines_none e done = refl
  lines_none e (text.Lines.comment c x) = absurd (some_comment c e)
  lines_none e (arc c x) = absurd (some_arc c e)

  pub lines_only : {s : List ℕ} {l k : List Arc} → Lines top low n s l → Lines top low n s k → l ≡ k
  lines_only done y = sym (lines_none refl y)
  lines_only (text.Lines.comment c x) y = lines_only x (lines_comment c y)
  lines_only (arc c x) y = let w = lines_arc c y in cc (w.1, lines_only x w.2)

module _ {top low : ℕ} where
  pub says_comment : {s r : List ℕ} {a : Said} → Comment s r → Says top low s a → Says top low r a
  says_comment c (text.Says.comment d x) = rw (comment_only d c) at x
  says_comment c (problem p x) = absurd (comment_no_problem c p)

  pub says_problem : {n m : ℕ} {s r : List ℕ} {a : Said} → Problem s n m r → Says top low s a
      → (l : List Arc) × (a ≡ record { nodes = n; count = m; arcs = l }) × Lines top low n r l
  says_problem p (text.Says.comment c x) = absurd (comment_no_problem c p)
  says_problem p (problem {l = l} q x) =
      let w = problem_only q p in
      (l, (λ i. record { nodes = w.0 i; count = w.1 i; arcs = l }), rw (w.0, w.2) at x)

  pub says_only : {s : List ℕ} {a b : Said} → Says top low s a → Says top low s b → a ≡ b
  says_only (text.Says.comment c x) y = says_only x (says_comment c y)
  says_only (problem {n = n} {m = m} p x) y =
      let w = says_problem p y in
      let e = lines_only x w.2 in
      sym (w.1 ∙ (λ i. record { nodes = n; count = m; arcs = sym e i }))

module _ {A : Type 0} {refusal : ℕ → A} {s w : List ℕ} {rest : Said → Said → A → Type 0} where
  pub reads_only : ((a b : Said) → Only (rest a b)) → Only (Reads A refusal s w rest)
  reads_only one x y (unread n) (unread m) = refl
  reads_only one x y (unread n) (read f g u) = absurd (n _ _ f g)
  reads_only one x y (read f g u) (unread n) = absurd (n _ _ f g)
  reads_only one x y (read {a = a} {b = b} f g u) (read h k v) =
      unless_only (one a b) x y u (rw (says_only h f, says_only k g) at v)
