-- From a line's fields to the line. A line that was read has each field where the one before it ended. Where one was
-- not found there is no such line: in any reading the fields before it are those that were read, since a number at a
-- place is one, so the field that was not found would stand there.
use mathlib.Core.Path.{◌≡◌, sym, ◌∙◌}
use mathlib.Core.List.{List, [], ◌∷◌, ◌++◌}
use Prim.Native.Nat.{ℕ, ◌<◌}
use native.Mathlib.Omega.{arith}
use lib.ListN.{drop}
use Rattle.std.proofs.Common.{Some, None}
use Rattle.text.specs.Word.{word}
use Rattle.roads.specs.Number.{Field}
use Rattle.roads.specs.Text.{Arc, Problem, ArcLine}
use Rattle.roads.specs.work.Scanned.{
  Further,
  FieldOf,
  number,
  nothing,
  BoundedOf,
  inside,
  outside,
  ArcNumberOf,
  bits,
  unfit,
}
use Rattle.roads.specs.work.Line.{WordOf, stands, elsewhere, ProblemOf, counts, missing, ArcOf, joins, other}
use Rattle.roads.specs.declared.number.Scanned.{Scanned}
use Rattle.roads.proofs.Fields.{field_only}

further_more : {s : List ℕ} {at i j : ℕ} → Further s at i → Further s i j → Further s at j
further_more f g = record { on = omega (arith, f.on, g.on); within = g.within }

-- what follows a word is one
pub word_cancel : (w p q : List ℕ) → w ++ p ≡ w ++ q → p ≡ q
word_cancel [] p q e = e
word_cancel (b ∷ w) p q e = let f : w ++ p ≡ w ++ q = cc in word_cancel w p q f

word_follows : {s : List ℕ} {at i : ℕ} (w p : List ℕ) → WordOf s at w (Some i) → drop at s ≡ w ++ p → p ≡ drop i s
word_follows {s} {i = i} w p (stands e m) f = word_cancel w p (drop i s) (sym f ∙ e)

-- what follows a number within bounds is one
number_follows : {s r q : List ℕ} {at end low high x : ℕ} {o : Scanned} → end < 48
    → BoundedOf s at end low high (Some o) → Field x end q r → q ≡ drop at s → r ≡ drop o.next s
number_follows small (inside f lo hi m) g e = (field_only small (rw e at g) f).1

-- The p line
module _ {s : List ℕ} {at : ℕ} where
  pub problem_no_word : WordOf s at (word "p sp ") None → ProblemOf s at None
  problem_no_word (elsewhere f) = missing (λ n m r p. f p.first p.spelt)

  module _ {i : ℕ} (w : WordOf s at (word "p sp ") (Some i)) where
    at_nodes : {n m : ℕ} {r : List ℕ} (p : Problem (drop at s) n m r) → p.first ≡ drop i s
    at_nodes p = word_follows (word "p sp ") p.first w p.spelt

    pub problem_no_nodes : BoundedOf s i 32 0 65535 None → ProblemOf s at None
    problem_no_nodes (outside g) =
        missing λ n m r p. g n p.second (rw (at_nodes p) at p.nodes) (omega arith) p.fits

    module _ {j : Scanned} (b : BoundedOf s i 32 0 65535 (Some j)) where
      at_count : {n m : ℕ} {r : List ℕ} (p : Problem (drop at s) n m r) → p.second ≡ drop j.next s
      at_count p = number_follows (omega arith) b p.nodes (at_nodes p)

      pub problem_no_count : FieldOf s j.next 10 None → ProblemOf s at None
      problem_no_count (nothing g) = missing λ n m r p. g m r (rw (at_count p) at p.count)

  pub problem_found : {i : ℕ} {n c : Scanned} → WordOf s at (word "p sp ") (Some i)
      → BoundedOf s i 32 0 65535 (Some n) → FieldOf s n.next 10 (Some c)
      → ProblemOf s at (Some (record { nodes = n.value; count = c.value; next = c.next }))
  problem_found (stands e h) (inside f lo hi m) (number g c k) = counts
      (record { first = _; second = _; spelt = e; nodes = f; count = g; fits = hi })
      c
      (further_more h (further_more m k))

-- The line of an arc
module _ {top low n : ℕ} {s : List ℕ} {at : ℕ} where
  pub arc_no_word : WordOf s at (word "a ") None → ArcOf top low n s at None
  arc_no_word (elsewhere f) = other (λ e r p. f p.first p.spelt)

  module _ {i : ℕ} (w : WordOf s at (word "a ") (Some i)) where
    at_from : {e : Arc} {r : List ℕ} (p : ArcLine top low n (drop at s) e r) → p.first ≡ drop i s
    at_from p = word_follows (word "a ") p.first w p.spelt

    pub arc_no_from : BoundedOf s i 32 1 n None → ArcOf top low n s at None
    arc_no_from (outside g) =
        other λ e r p. g _ _ (rw (at_from p) at p.from) p.from_node.low p.from_node.high

    module _ {j : Scanned} (b : BoundedOf s i 32 1 n (Some j)) where
      at_to : {e : Arc} {r : List ℕ} (p : ArcLine top low n (drop at s) e r) → p.second ≡ drop j.next s
      at_to p = number_follows (omega arith) b p.from (at_from p)

      pub arc_no_to : BoundedOf s j.next 32 1 n None → ArcOf top low n s at None
      arc_no_to (outside g) = other λ e r p. g _ _ (rw (at_to p) at p.to) p.to_node.low p.to_node.high

      pub arc_no_number : {k : Scanned} → BoundedOf s j.next 32 1 n (Some k) → ArcNumberOf s k.next top low None
          → ArcOf top low n s at None
      arc_no_number d (unfit g) = other λ e r p.
          g _ _ (rw (number_follows (omega arith) d p.to (at_to p)) at p.number)

  pub arc_found : {i : ℕ} {u v x : Scanned} → WordOf s at (word "a ") (Some i) → BoundedOf s i 32 1 n (Some u)
      → BoundedOf s u.next 32 1 n (Some v) → ArcNumberOf s v.next top low (Some x)
      → ArcOf top low n s at (Some (record { from = u.value; to = v.value; number = x.value; next = x.next }))
  arc_found (stands e h) (inside f lo hi m) (inside f' lo' hi' m') (bits g small l) = joins
      (record {
        first = _;
        second = _;
        third = _;
        spelt = e;
        from = f;
        to = f';
        number = g;
        from_node = record { low = lo; high = hi };
        to_node = record { low = lo'; high = hi' };
      })
      (further_more h (further_more m (further_more m' l)))
