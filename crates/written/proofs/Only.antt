-- Rows have one text: a number has one text, each of 32 bits is one number of the text's range, and a line is its word
-- and its fields, so from the last line back to the first nothing is left open.
use mathlib.Core.Path.{◌≡◌, refl}
use mathlib.Core.List.{List}
use Prim.Native.Nat.{ℕ, ◌+◌, ◌<◌}
use native.Mathlib.Omega.{arith}
use Rattle.text.proofs.Decimals.{decimal_one}
use Rattle.roads.specs.Number.{Field, ArcNumber, plain, minus}
use Rattle.roads.specs.Text.{Arc, ArcLine}
use Rattle.written.specs.Written.{ArcLines, done, arc, Written}

field_text_lem : {x end : ℕ} {s q r : List ℕ} → Field x end s r → Field x end q r → s ≡ q
field_text_lem f g = let z = decimal_one f.decimal g.decimal in cc (f.spelt, g.spelt, z)

module _ {top low : ℕ} (apart : top + low < 4294967296) where
  number_text_lem : {b : ℕ} {s q r : List ℕ} → ArcNumber top low b s r → ArcNumber top low b q r → s ≡ q
  number_text_lem (plain f _) (plain g _) = field_text_lem f g
  number_text_lem (plain f hi) (minus e g lo hi' z) = absurd (omega arith)
  number_text_lem (minus e f lo hi z) (plain g hi') = absurd (omega arith)
  number_text_lem (minus {x} e f lo hi z) (minus {x = y} e' g lo' hi' z') =
      let q : y ≡ x = omega arith in
      let v = field_text_lem f (rw q at g) in
      cc (e, e', v)

  module _ {n : ℕ} where
    arc_text_lem : {s q r : List ℕ} {e : Arc} → ArcLine top low n s e r → ArcLine top low n q e r → s ≡ q
    arc_text_lem a b =
        let x = number_text_lem a.number b.number in
        let y = field_text_lem a.to (rw (← x) at b.to) in
        let z = field_text_lem a.from (rw (← y) at b.from) in
        cc (a.spelt, b.spelt, z)

    lines_text : {s q : List ℕ} {l : List Arc} → ArcLines top low n s l → ArcLines top low n q l → s ≡ q
    lines_text done done = refl
    lines_text (arc a x) (arc b y) = let e = lines_text x y in arc_text_lem a (rw (← e) at b)

    pub written_only : {m : ℕ} {row : ℕ → Arc} {t u : List ℕ} → Written top low n row m t → Written top low n row m u
        → t ≡ u
    written_only a b =
        let e = lines_text a.arcs b.arcs in
        let x = field_text_lem a.problem.count (rw (← e) at b.problem.count) in
        let y = field_text_lem a.problem.nodes (rw (← x) at b.problem.nodes) in
        cc (a.problem.spelt, b.problem.spelt, y)
