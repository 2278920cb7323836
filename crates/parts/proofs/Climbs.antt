-- One outcome only: a pair across two items is, in the tree, the pair whose climbs meet at t; so each pair of spots
-- has one value, and what `whole` promises allows one best.
use Prim.Native.Nat.{ℕ, zero, suc, ◌+◌, ◌≤◌, ◌<◌}
use mathlib.Core.Path.{◌≡◌, sym, ap, ◌∙◌}
use mathlib.Core.Logic.{◌⊎◌, inl, inr}
use mathlib.Core.List.{List}
use native.Mathlib.Omega.{arith}
use native.Mathlib.Decide.{dec_lt, ℕ_discrete}
use Rattle.arrays.specs.At.{at}
use Rattle.spans.specs.work.Pairs.{Le}
use Rattle.spans.specs.declared.across.Best.{Best}
use Rattle.spans.proofs.Order.{le_antisym}
use Rattle.parts.specs.work.Parts.{Part, none, node, hung, Item, own, tree}
use Rattle.parts.specs.work.Searched.{Cross, Met, Found, Searched}
use Rattle.parts.proofs.Numbered.{Numbered}
use Rattle.parts.proofs.Parts.{part_le}

-- One outcome only, where a pair has one value
module _ (stop head parent name d w : List ℕ) (s e : ℕ) (Within : ℕ → Type 0) (old : Best)
    (one : (p q : ℕ) (a b : Best) → q < e → Cross stop head parent name d w p q a
    → Cross stop head parent name d w p q b → a ≡ b) where
  below : (x y : Best) → Searched stop head parent name d w s e Within old x
      → Searched stop head parent name d w s e Within old y → Le x y
  below x y f g = pick f.comes
    where
      pick : (x ≡ old) ⊎ Found stop head parent name d w s e Within x → Le x y
      pick (inl u) = rw u g.keeps
      pick (inr u) =
          let k : Met stop head parent name d w u.p u.q Within y = g.beats u.p u.q u.p_low u.p_q
          u.q_high in
          let v : k.best ≡ x = one u.p u.q k.best x u.q_high k.cross u.cross in
          rw v at (k.beaten (rw v u.short))

  pub searched_only : (x y : Best) → Searched stop head parent name d w s e Within old x
      → Searched stop head parent name d w s e Within old y → x ≡ y
  searched_only x y f g = le_antisym x y (below x y f g) (below y x g f)

-- a subtree is a span of spots: for the tree's theory to show
pub record Nested (stop parent : List ℕ) (n : ℕ) : Type 0 where
  pub up : (q : ℕ) → 0 < q → q < n → at parent q < q
  pub shut : (k a : ℕ) → k ≤ a → a < n → a < at stop k → at stop a ≤ at stop k
  pub above : (a k : ℕ) → a < k → k < n → k < at stop a → a ≤ at parent k

-- t is above or equal to p and q, and nothing of q's climb below t is above p
pub record Climbs (stop : List ℕ) (p q t : ℕ) : Type 0 where
  pub p_low : t ≤ p
  pub p_high : p < at stop t
  pub q_low : t ≤ q
  pub q_high : q < at stop t
  pub apart : (a : ℕ) → t < a → a ≤ p → q < at stop a → ⊥

module _ (stop head parent : List ℕ) (n : ℕ) (z : Numbered stop head parent n) (y : Nested stop parent n) where
  -- along a spine all subtrees end together
  abbrev End : ℕ → Type 0
  End a = at stop a ≡ at stop (at head a)

  ends_step : (a : ℕ) → 0 < a → a < n → End (at parent a) → End a
  ends_step a b c ih = side (dec_lt (at stop a) (at stop (at parent a)))
    where
      side : Dec (at stop a < at stop (at parent a)) → at stop a ≡ at stop (at head a)
      side (yes v) = rw (z.own a b c v)
      side (no v) =
          let e : at stop a ≡ at stop (at parent a) = omega (arith, z.inside a b c) in
          e ∙ ih ∙ ap (λ x. at stop x) (sym (z.last a b c e))

  ends_zero : (a : ℕ) → a ≡ 0 → End a
  ends_zero a u = rw (u, z.top)

  ends_fuel : (k a : ℕ) → a ≤ k → a < n → End a
  ends_fuel zero a b c = ends_zero a (omega arith)
  ends_fuel (suc k) a b c = pick (ℕ_discrete a 0) (ends_fuel k)
    where
      pick : Dec (a ≡ 0) → ((x : ℕ) → x ≤ k → x < n → at stop x ≡ at stop (at head x)) → at stop a ≡ at stop (at head a)
      pick (yes u) ih = ends_zero a u
      pick (no u) ih =
          ends_step a (omega arith) c
          (ih (at parent a) (omega (arith, y.up a (omega arith) c)) (omega (arith, y.up a (omega arith) c)))

  spine_end : (a h : ℕ) → a < n → at head a ≡ h → at stop a ≡ at stop h
  spine_end a h b e = ends_fuel a a (omega arith) b ∙ ap (λ x. at stop x) e

  -- a spot of a part lies in the spine's tree
  part_in : {h s e : ℕ} (q : ℕ) → Part stop head parent h s e → s ≤ q → q < e → q < n → 0 < s → q < at stop h
  part_in q none a b c d = absurd (omega arith)
  part_in q (node {h} {s} {e} o p) a b c d = pick (ℕ_discrete q s) (part_in q p)
    where
      pick : Dec (q ≡ s) → (s + 1 ≤ q → q < e → q < n → 0 < s + 1 → q < at stop h) → q < at stop h
      pick (yes u) ih = let l : s < n = omega arith in omega (arith, z.grows s l, spine_end s h l o)
      pick (no u) ih = ih (omega arith) b c (omega arith)
  part_in q (hung {h} {s} {e} {t} m o k f g l u p) a b c d = pick (dec_lt q t) (part_in q p)
    where
      pick : Dec (q < t) → (t ≤ q → q < e → q < n → 0 < t → q < at stop h) → q < at stop h
      pick (yes v) ih =
          let r : s < n = omega arith in
          omega (arith, o, z.inside s d r, spine_end (at parent s) h (omega (arith, y.up s d r)) g)
      pick (no v) ih = ih (omega arith) b c (omega arith)

  -- a spot that hangs at t, seen from a later one
  item_climbs : {h k r t m : ℕ} (p q : ℕ) → Item stop head parent h k r t → k ≤ p → p < r → r ≤ m → m ≤ q → q < n
      → (0 < m → q < at stop h) → Climbs stop p q t
  item_climbs p q (own {h} {s} o) a b c d e f =
      let u : p ≡ s = omega arith in
      record {
        p_low = a;
        p_high = rw u (z.grows s (omega arith));
        q_low = omega arith;
        q_high = omega (arith, f (omega arith), spine_end s h (omega arith) o);
        apart = λ x i j l. omega arith;
      }
  item_climbs p q (tree {h} {s} {r} n₁ o up g l v) a b c d e f =
      let s_in : s < n = omega arith in
      record {
        p_low = omega arith;
        p_high = omega (arith, o, z.inside s (omega arith) s_in);
        q_low = omega arith;
        q_high = omega (arith, f (omega arith), spine_end (at parent s) h (omega arith) g);
        apart = λ x j k w. apart x j k w (dec_lt x s);
      }
    where
      apart : (x : ℕ) → at parent s < x → x ≤ p → q < at stop x → Dec (x < s) → ⊥
      apart x j k w (yes u) = omega (arith, y.above x s u (omega arith) (omega arith))
      apart x j k w (no u) = omega (arith, y.shut s x (omega arith) (omega arith) (omega (arith, o)), o)

  -- the pair that the lists weigh is the pair of the tree
  pub cross_climbs : (name d w : List ℕ) (p q : ℕ) (b : Best) (c : Cross stop head parent name d w p q b) → q < n
      → Climbs stop p q c.t
  cross_climbs name d w p q b c l =
      let i = c.left in
      item_climbs p q i.item i.low i.high (part_le stop head parent i.after) c.low l
      (λ m. part_in q c.right c.low c.high l m)

  climbs_one : (p q t t' : ℕ) → Climbs stop p q t → Climbs stop p q t' → t ≡ t'
  climbs_one p q t t' f g = pick (dec_lt t t') (dec_lt t' t)
    where
      pick : Dec (t < t') → Dec (t' < t) → t ≡ t'
      pick (yes u) v = absurd (f.apart t' u g.p_low g.q_high)
      pick (no u) (yes v) = absurd (g.apart t v f.p_low f.q_high)
      pick (no u) (no v) = omega arith

  -- a pair has one value
  pub cross_one : (name d w : List ℕ) (p q : ℕ) (a b : Best) → q < n → Cross stop head parent name d w p q a
      → Cross stop head parent name d w p q b → a ≡ b
  cross_one name d w p q a b l f g =
      let e : f.t ≡ g.t = climbs_one p q f.t g.t (cross_climbs name d w p q a f l)
      (cross_climbs name d w p q b g l) in
      let w₁ : a.weight ≡ b.weight = omega (arith, f.value.weight, g.value.weight, ap (λ x. at w x) e) in
      let w₂ : a.length ≡ b.length = omega (arith, f.value.length, g.value.length, ap (λ x. at d x) e) in
      let w₃ : a.low ≡ b.low = f.value.low ∙ sym g.value.low in
      let w₄ : a.high ≡ b.high = f.value.high ∙ sym g.value.high in
      λ i. record { weight = w₁ i; length = w₂ i; low = w₃ i; high = w₄ i }

  -- the promise of `whole` allows one outcome
  pub whole_only : (name d w : List ℕ) (Within : ℕ → Type 0) (old x y : Best)
      → Searched stop head parent name d w 0 n Within old x → Searched stop head parent name d w 0 n Within old y
      → x ≡ y
  whole_only name d w Within old =
      searched_only stop head parent name d w 0 n Within old (λ p q a b l. cross_one name d w p q a b l)
