-- Passing bytes: up to the end of a line, which is its first line feed; along a word, byte by byte; and past comments,
-- line by line, up to a line that is none. Each loop's invariant says what was passed.
use mathlib.Core.Path.{◌≡◌, refl, sym, ap, ◌∙◌}
use mathlib.Core.List.{List, [], ◌∷◌, ◌++◌, append-nil}
use Prim.Native.Nat.{ℕ, ◌+◌, ◌≤◌, ◌<◌}
use native.Mathlib.Omega.{arith}
use lib.ListN.{length, get_or, drop, length-append, length-drop, drop_of_length-le}
use Rattle.std.proofs.Common.{Some, None, slice_range}
use Rattle.std.proofs.lemmas.List.{drop-drop}
use Rattle.std.proofs.lemmas.List.Folds.{drop_split}
use Rattle.roads.specs.Text.{Plain, none, next, Comment}
use Rattle.roads.specs.work.Scanned.{Further}
use Rattle.roads.specs.work.Line.{EndOf, ended, unended, WordOf, stands, elsewhere, Comments, PastComments}
use Rattle.roads.specs.work.Line as work
use Rattle.roads.proofs.Places.{from_place, byte_there, passed_more, empty_not, empty_within}

-- The end of a line
plain_snoc : {t : List ℕ} {b : ℕ} → Plain t → (b ≡ 10 → ⊥) → Plain (t ++ b ∷ [])
plain_snoc none n = next n none
plain_snoc (next m p) n = next m (plain_snoc p n)

plain_whole : {t : List ℕ} → Plain t → (u r : List ℕ) → t ≡ u ++ 10 ∷ r → ⊥
plain_whole none u r e = empty_within u r 10 refl e
plain_whole (next n p) [] r e = n (cc)
plain_whole (next {t = t} n p) (c ∷ u) r e = let f : t ≡ u ++ 10 ∷ r = cc in plain_whole p u r f

-- from place `at` up to i there is no line feed
pub record Skip (s : List ℕ) (at i : ℕ) : Type 0 where
  pub said : List ℕ
  pub spelt : drop at s ≡ said ++ drop i s
  pub plain : Plain said
  pub on : at ≤ i

pub skip_none : (s : List ℕ) (at : ℕ) → Skip s at at
skip_none s at = record { said = []; spelt = refl; plain = none; on = omega arith }

module _ {s : List ℕ} {at i : ℕ} (k : Skip s at i) where
  pub skip_more : i < length s → (get_or s i 0 ≡ 10 → ⊥) → Skip s at (i + 1)
  skip_more h n = record {
    said = k.said ++ get_or s i 0 ∷ [];
    spelt = passed_more k.said s i h k.spelt;
    plain = plain_snoc k.plain n;
    on = omega (arith, k.on);
  }

  pub skip_found : i < length s → get_or s i 0 ≡ 10 → EndOf s at (Some (i + 1))
  skip_found h e = ended {next = i + 1} k.said (rw (← byte_there s i 10 h e) k.spelt) k.plain
      (record { on = omega (arith, k.on); within = omega arith })

  pub skip_out : length s ≤ i → EndOf s at None
  skip_out h =
      let z : drop i s ≡ [] = drop_of_length-le s h in
      let g : drop at s ≡ k.said ++ [] = rw z at k.spelt in
      unended λ t r e. plain_whole k.plain t r (sym (append-nil k.said) ∙ sym g ∙ e)

-- A word: x is what stands at the place
module _ {x : List ℕ} (s : List ℕ) {at : ℕ} (w : List ℕ) where
  there : at ≤ length s → x ≡ slice_range s at (length s) → drop at s ≡ x
  there h e =
      let z : drop (length s) s ≡ [] = drop_of_length-le s (omega arith) in
      drop_split s at (length s) h ∙ rw (z, ← e, append-nil x) refl

  pub word_found : at ≤ length s → 1 ≤ length w → x ≡ slice_range s at (length s) → x ≡ w ++ drop (length w) x
      → WordOf s at w (Some (at + length w))
  word_found h o e f =
      let z = there h e in
      let k : drop (length w) x ≡ drop (at + length w) s = rw (← z) (drop-drop (length w) at s) in
      let g : drop at s ≡ w ++ drop (at + length w) s = rw k at (z ∙ f) in
      let l : at + length w ≤ length s = omega (
        arith,
        ap length f,
        ap length z,
        length-drop at s,
        length-append w (drop (length w) x),
      ) in
      stands {next = at + length w} g (record { on = omega arith; within = l })

  pub word_other : at ≤ length s → x ≡ slice_range s at (length s) → ((r : List ℕ) → x ≡ w ++ r → ⊥)
      → WordOf s at w None
  word_other h e n = elsewhere λ r f. n r (sym (there h e) ∙ f)

pub word_past : {s : List ℕ} {at : ℕ} (w : List ℕ) → length s < at → 1 ≤ length w → WordOf s at w None
word_past {s} {at} w h o = elsewhere λ r e. omega (arith, ap length e, length-append w r, length-drop at s)

-- Comments
pub record Passing (s : List ℕ) (at i : ℕ) : Type 0 where
  pub comments : Comments (drop at s) (drop i s)
  pub on : at ≤ i

pub passing_none : (s : List ℕ) (at : ℕ) → Passing s at at
passing_none s at = record { comments = work.none; on = omega arith }

module _ {s : List ℕ} {at i : ℕ} (k : Passing s at i) where
  pub passing_more : {next : ℕ} → i < length s → get_or s i 0 ≡ 99 → EndOf s (i + 1) (Some next)
      → Passing s at next × Further s i next
  passing_more {next} h e (ended said f p m) =
      let g = byte_there s i 99 h e in
      let c : Comment (drop i s) (drop next s) = record { said = said; spelt = cc (f, g); plain = p } in (
        record { comments = work.more k.comments c; on = omega (arith, k.on, m.on) },
        record { on = omega (arith, m.on); within = m.within },
      )

  stop : ((r : List ℕ) → Comment (drop i s) r → ⊥) → PastComments s at i
  stop n = record { comments = k.comments; no_comment = n; on = k.on }

  pub passing_other : i < length s → (get_or s i 0 ≡ 99 → ⊥) → PastComments s at i
  passing_other h n = let e = from_place s i h in stop (λ r p. n (cc (e, p.spelt)))

  pub passing_unended : i < length s → EndOf s (i + 1) None → PastComments s at i
  passing_unended h (unended f) = let e = from_place s i h in stop (λ r p. f p.said r (cc (e, p.spelt)))

  pub passing_out : length s ≤ i → PastComments s at i
  passing_out h = stop (λ r p. empty_not (drop_of_length-le s h) p.spelt)
