-- A buffer whose front is filled a part at a time: the fronts that follow one another are one front.
use Rattle.std.proofs.Common.{
  ℕ,
  List,
  Option,
  sym,
  ap,
  subst,
  arith,
  le_refl,
  drop_at,
  length-take-le,
  ◌≡◌,
  ◌+◌,
  ◌-◌,
  ◌≤◌,
  ◌++◌,
  ◌∙◌,
  length,
  take,
  slice_range,
}
use Rattle.std.proofs.lemmas.Slice.{take-put_mid_below}
use Rattle.std.proofs.KnownBytes.{Consumes-trans}
use Rattle.std.specs.Io.KnownBytes.{Consumes}
use borrow.Rule.Slice.PartMut.{put_mid, post_of}
use lib.Seq.{take-add, take-append-le}

-- the front up to a, and then what stands from a to b, is the front up to b
front_grows : (a b : ℕ) (old new : List ℕ) → a ≤ b → take a new ≡ take a old
    → take a old ++ slice_range new a b ≡ take b new
front_grows a b old new h front =
    let same : a + (b - a) ≡ b = omega arith in
    ap (λ l. l ++ slice_range new a b) (sym front) ∙ sym (take-add a (b - a) new) ∙ ap (λ n. take n new) same

-- what was put from a on stands there
put_stands : (a k n : ℕ) (xs ys : List ℕ) → a ≤ length xs → n ≤ length ys
    → slice_range (put_mid a k xs ys) a (a + n) ≡ take n ys
put_stands a k n xs ys within fits =
    let same : (a + n) - a ≡ n = omega arith in
    let after = post_of a k xs in
    ap (take ((a + n) - a)) (drop_at (take a xs) (ys ++ after) a (length-take-le a xs within))
    ∙ ap (λ m. take m (ys ++ after)) same
    ∙ take-append-le n ys after fits

-- the front had what was taken so far, and the next n bytes come behind it
pub taken_more : (old mid new : Option (List ℕ)) (a k n : ℕ) (xs ys : List ℕ) → a ≤ length xs → n ≤ length ys
    → Consumes old mid (take a xs) → Consumes mid new (take n ys)
    → Consumes old new (take (a + n) (put_mid a k xs ys))
taken_more old mid new a k n xs ys within fits before more =
    let below = take-put_mid_below _ _ _ _ _ (le_refl _) within in
    let joined = front_grows a (a + n) xs (put_mid a k xs ys) (omega arith) below in
    subst (Consumes old new) (ap (λ l. take a xs ++ l) (sym (put_stands a k n xs ys within fits)) ∙ joined)
    (Consumes-trans old mid new _ _ before more)
