-- The best pair of spots: what a pair across two items of a spine weighs and measures, and that a best beats all pairs
-- of a span of spots.
use Rattle.std.specs.Prelude.{ℕ, ◌+◌, ◌*◌, ◌≤◌, ◌<◌, min, max, ◌≡◌, ◌⊎◌, List}
use Rattle.arrays.specs.At.{at}
use Rattle.spans.specs.work.Pairs.{Le}
use Rattle.spans.specs.declared.across.Best.{Best}
use Rattle.parts.specs.work.Parts.{Part, Item}
use Rattle.parts.specs.work.Lift.{key_lift}

module _ (stop head parent : List ℕ) where
  -- spot p of the part from s to e hangs at t
  pub record Hangs (h s e p t : ℕ) : Type 0 where
    pub start : ℕ
    pub end : ℕ
    pub before : Part stop head parent h s start
    pub item : Item stop head parent h start end t
    pub after : Part stop head parent h end e
    pub low : start ≤ p
    pub high : p < end

  module _ (name d w : List ℕ) where
    -- what a pair of spots weighs and measures, lifted, the first hanging at t
    pub record PairValue (p q t : ℕ) (b : Best) : Type 0 where
      pub weight : b.weight + 2 * at w t ≡ key_lift + at w p + at w q
      pub length : b.length + 2 * at d t ≡ key_lift + at d p + at d q
      pub low : b.low ≡ min (at name p) (at name q)
      pub high : b.high ≡ max (at name p) (at name q)

    -- p lies in an earlier item, which hangs at t, and q in a later one of the same spine
    pub record Cross (p q : ℕ) (b : Best) : Type 0 where
      pub h : ℕ
      pub s : ℕ
      pub m : ℕ
      pub e : ℕ
      pub t : ℕ
      pub left : Hangs h s m p t
      pub right : Part stop head parent h m e
      pub low : m ≤ q
      pub high : q < e
      pub value : PairValue p q t b

    -- the pair of p and q has a value, and if that is within the length test, new is at least as good
    pub record Met (p q : ℕ) (Within : ℕ → Type 0) (new : Best) : Type 0 where
      pub best : Best
      pub cross : Cross p q best
      pub beaten : Within best.length → Le best new

    -- new is a pair of spots from s to e, within the length test
    pub record Found (s e : ℕ) (Within : ℕ → Type 0) (new : Best) : Type 0 where
      pub p : ℕ
      pub q : ℕ
      pub p_low : s ≤ p
      pub p_q : p < q
      pub q_high : q < e
      pub cross : Cross p q new
      pub short : Within new.length

    -- new keeps the old best, beats every pair of spots from s to e within the length test, and is one of these
    pub record Searched (s e : ℕ) (Within : ℕ → Type 0) (old new : Best) : Type 0 where
      pub keeps : Le old new
      pub beats : (p q : ℕ) → s ≤ p → p < q → q < e → Met p q Within new
      pub comes : (new ≡ old) ⊎ Found s e Within new
