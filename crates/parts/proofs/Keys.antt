-- The keys and lists of one item.
use Prim.Native.Nat.{ℕ, ◌+◌, ◌*◌, ◌^◌, ◌≤◌, ◌<◌}
use mathlib.Core.Path.{◌≡◌, ◌∙◌}
use mathlib.Core.List.{List}
use native.Mathlib.Omega.{arith}
use native.Mathlib.Decide.{dec_lt}
use Rattle.arrays.specs.At.{at}
use Rattle.spans.specs.work.Spans.{InSpan, SpanCopied}
use Rattle.spans.specs.work.Pairs.{Small}
use Rattle.spans.proofs.Copying.{kept_none}
use Rattle.parts.specs.work.Lift.{key_lift, Low, World}
use Rattle.parts.specs.work.Listed.{Sizes, Framed, SpanListed, RaisedKeys, Lone}

pub raised_small : (f : List ℕ) (p s e : ℕ) (l m : List ℕ) → Low f → e ≤ 4096 → RaisedKeys f p s e l m → Small l
    → Small m
raised_small f p s e l m o b h g = record { small = λ x n. small x n (dec_lt x s) (dec_lt x e) }
  where
    small : (x : ℕ) → x < 4096 → Dec (x < s) → Dec (x < e) → at m x < 2 ^ 62
    small x n (yes a) c = rw (h.kept.before x a) (g.small x n)
    small x n (no a) (yes c) = omega (arith, h.done x (omega arith) c, o.low x n)
    small x n (no a) (no c) = rw (h.kept.after x (omega arith)) (g.small x n)

pub listed_one : (key l : List ℕ) (s : ℕ) → at l s ≡ s → SpanListed key l s (s + 1)
listed_one key l s q =
    record {
      sorted = record {
        rise = λ p r a b c.
            let u : p ≡ s = omega arith in
            let v : r ≡ s = omega arith in
            rw (u, v) (record { le = omega arith });
      };
      low = λ k a b. let u : k ≡ s = omega arith in rw u (omega (arith, q));
      high = λ k a b. let u : k ≡ s = omega arith in rw u (omega (arith, q));
      has = λ z a b. record { spot = s; low = omega arith; high = omega arith; is = q ∙ omega arith };
    }

-- the same spots by a key that differs by the same number at each
pub listed_again : (d ku x y : List ℕ) (s e : ℕ) (c : ℕ) → SpanListed d x s e
    → ((k : ℕ) → s ≤ k → k < e → at y k ≡ at x k)
    → ((z : ℕ) → s ≤ z → z < e → at ku z + c ≡ key_lift + at d z) → SpanListed ku y s e
listed_again d ku x y s e c h q f =
    record {
      sorted = record {
        rise = λ p r a b o. rw (q p a (omega arith), q r (omega arith) o)
            (record {
              le = omega (
                arith,
                f (at x p) (h.low p a (omega arith)) (h.high p a (omega arith)),
                f (at x r) (h.low r (omega arith) o) (h.high r (omega arith) o),
                (h.sorted.rise p r a b o).le,
              );
            });
      };
      low = λ k a b. rw (q k a b) (h.low k a b);
      high = λ k a b. rw (q k a b) (h.high k a b);
      has = λ z a b.
          let i : InSpan x s e z = h.has z a b in
          record { spot = i.spot; low = i.low; high = i.high; is = q i.spot i.low i.high ∙ i.is };
    }

pub lone_hang : (d w : List ℕ) (t p s e : ℕ) (x y ku wu y' ku' wu' : List ℕ) → World d w → Sizes x y ku wu → e ≤ 4096
    → SpanListed d x s e → SpanCopied x s e y y' → p ≡ t → RaisedKeys d p s e ku ku' → RaisedKeys w p s e wu wu'
    → Lone d w t s e x y' ku' wu' × Framed s e x y ku wu x y' ku' wu'
lone_hang d w t p s e x y ku wu y' ku' wu' o z b l c q i j = (
  record {
    down = l;
    up = listed_again d ku' x y' s e (2 * at d p) l c.done i.done;
    keys = rw (← q) i.done;
    weights = rw (← q) j.done;
    small_ku = raised_small d p s e ku ku' o.far b i z.small_ku;
    small_wu = raised_small w p s e wu wu' o.heavy b j z.small_wu;
  },
  record { of_x = kept_none; of_y = c.kept; of_ku = i.kept; of_wu = j.kept },
)
