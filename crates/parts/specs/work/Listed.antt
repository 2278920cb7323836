-- Working statements of the private functions of keyed.rt and spine.rt, and no part of the promises: the lists and keys
-- of a part.
use Rattle.std.specs.Prelude.{ℕ, ◌+◌, ◌*◌, ◌≤◌, ◌<◌, ◌≡◌, List, length}
use Rattle.arrays.specs.At.{at}
use Rattle.spans.specs.work.Spans.{InSpan, By, Sorted, Kept}
use Rattle.spans.specs.work.Pairs.{Small, Given, JoinedBest}
use Rattle.spans.specs.declared.across.Best.{Best}
use Rattle.parts.specs.work.Lift.{key_lift}
use Rattle.parts.specs.work.Searched.{Hangs}

-- the work arrays: two lists and two keys
pub record Sizes (x y ku wu : List ℕ) : Type 0 where
  pub of_x : length x ≡ 4096
  pub of_y : length y ≡ 4096
  pub of_ku : length ku ≡ 4096
  pub of_wu : length wu ≡ 4096
  pub small_ku : Small ku
  pub small_wu : Small wu

-- they change from s to e alone
pub record Framed (s e : ℕ) (x y ku wu x' y' ku' wu' : List ℕ) : Type 0 where
  pub of_x : Kept s e x x'
  pub of_y : Kept s e y y'
  pub of_ku : Kept s e ku ku'
  pub of_wu : Kept s e wu wu'

-- the span from s to e of l holds exactly the spots from s to e, sorted by a key
pub record SpanListed (key l : List ℕ) (s e : ℕ) : Type 0 where
  pub sorted : Sorted (By key) l s e
  pub low : (k : ℕ) → s ≤ k → k < e → s ≤ at l k
  pub high : (k : ℕ) → s ≤ k → k < e → at l k < e
  pub has : (z : ℕ) → s ≤ z → z < e → InSpan l s e z

-- m is l with s alone put into its span from s to s + 1
pub record Alone (s : ℕ) (l m : List ℕ) : Type 0 where
  pub is : at m s ≡ s
  pub kept : Kept s (s + 1) l m

-- m is `from` raised to p, from s to e, and l elsewhere
pub record RaisedKeys (from : List ℕ) (p s e : ℕ) (l m : List ℕ) : Type 0 where
  pub done : (z : ℕ) → s ≤ z → z < e → at m z + 2 * at from p ≡ key_lift + at from z
  pub kept : Kept s e l m

-- the spots from s to e, listed, all hanging at t
pub record Lone (d w : List ℕ) (t s e : ℕ) (x y ku wu : List ℕ) : Type 0 where
  pub down : SpanListed d x s e
  pub up : SpanListed ku y s e
  pub keys : (z : ℕ) → s ≤ z → z < e → at ku z + 2 * at d t ≡ key_lift + at d z
  pub weights : (z : ℕ) → s ≤ z → z < e → at wu z + 2 * at w t ≡ key_lift + at w z
  pub small_ku : Small ku
  pub small_wu : Small wu

-- two neighbouring parts, listed
pub record Halves (ku wu d w x y : List ℕ) (s m e : ℕ) : Type 0 where
  pub given : Given ku wu d w
  pub left : s ≤ m
  pub right : m ≤ e
  pub within : e ≤ 4096
  pub x_left : SpanListed d x s m
  pub x_right : SpanListed d x m e
  pub y_left : SpanListed ku y s m
  pub y_right : SpanListed ku y m e

-- the two in one, with the best pair across
pub record Folded (name ku wu d w : List ℕ) (s m e : ℕ) (Within : ℕ → Type 0) (x y x' y' : List ℕ) (old new : Best) :
    Type 0 where
  pub down : SpanListed d x' s e
  pub up : SpanListed ku y' s e
  pub down_kept : Kept s e x x'
  pub up_kept : Kept s e y y'
  pub joined : JoinedBest name ku wu d w y x s m e Within old new

module _ (stop head parent : List ℕ) where
  module _ (d w : List ℕ) where
    -- the keys of a spot p of a part
    pub record Key (h s e p ku wu : ℕ) : Type 0 where
      pub t : ℕ
      pub hangs : Hangs stop head parent h s e p t
      pub key : ku + 2 * at d t ≡ key_lift + at d p
      pub weight : wu + 2 * at w t ≡ key_lift + at w p

    -- a part is listed by both keys, and each of its spots has its keys
    pub record PartReady (h s e : ℕ) (x y ku wu : List ℕ) : Type 0 where
      pub down : SpanListed d x s e
      pub up : SpanListed ku y s e
      pub keyed : (p : ℕ) → s ≤ p → p < e → Key h s e p (at ku p) (at wu p)
      pub small_ku : Small ku
      pub small_wu : Small wu
