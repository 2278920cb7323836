-- From spots to nodes: a pair of spots that the lists weigh is the pair of the two nodes whose spots they are, and
-- its climbs meet at the node whose spot is t. So the best of all pairs of spots is the best of all pairs of nodes,
-- and there is one.
use Prim.Native.Nat.{ℕ, ◌+◌, ◌*◌, ◌≤◌, ◌<◌}
use mathlib.Core.Path.{◌≡◌, refl, sym, ap}
use mathlib.Core.Logic.{◌⊎◌, inl, inr, ◌≢◌}
use mathlib.Core.List.{List}
use native.Mathlib.Omega.{arith}
use native.Mathlib.Decide.{ℕ_discrete, dec_lt}
use Rattle.arrays.specs.At.{at}
use Rattle.net.specs.work.Rooted.{Above}
use Rattle.reach.specs.work.Grown.{Grown}
use Rattle.net.proofs.Above.{Tree, fits_up}
use Rattle.reach.proofs.Grown.{grown_tree}
use Rattle.spans.specs.work.Pairs.{best4}
use Rattle.spans.specs.declared.across.Best.{Best}
use Rattle.parts.specs.work.Lift.{key_lift, Low}
use Rattle.parts.specs.work.Searched.{Cross, Searched}
use Rattle.parts.specs.work.Searched as searched
use Rattle.parts.proofs.Climbs.{Climbs, cross_climbs}
use Rattle.layout.proofs.Chosen.{Lifted, Value, Met, Found, Chosen}
use Rattle.layout.proofs.Meeting.{Meet}
use Rattle.layout.specs.work.Laid.{Spots, Laid}
use Rattle.layout.proofs.Numbers.{Numbering}
use Rattle.layout.proofs.Numbers as numbers

-- two nodes, the lower first
data Pair (a b : ℕ) : ℕ → ℕ → Type 0 where
  along : Pair a b a b
  turned : Pair a b b a

module _ {n : ℕ} {parent order place spot stops heads parents names : List ℕ} (g : Grown n parent order place)
    (m : Numbering n parent place spot stops heads parents names) where
  T : Tree n (at parent) (at place)
  T = grown_tree g

  spots_of : Spots n spot
  spots_of = numbers.spots_of g m

  -- what is laid out stays low
  pub laid_low : (e l : List ℕ) → Laid 0 n spot (λ v. at e v) l → Lifted n e → Low l
  laid_low e l h o = record { low = λ s b. low s b (dec_lt s n) }
    where
      low : (s : ℕ) → s < 4096 → Dec (s < n) → 2 * at l s ≤ key_lift
      low s b (yes c) =
          numbers.by_spot g m (λ s. 2 * at l s ≤ key_lift)
          (λ v bv. omega (arith, h.each v (omega arith) bv, o.low v bv)) s c
      low s b (no c) = omega (arith, h.rest s b (λ v i j q. omega (arith, q, spots_of.within v j)))

  module _ (d w far heavy : List ℕ) (fd : Laid 0 n spot (λ v. at d v) far)
      (fw : Laid 0 n spot (λ v. at w v) heavy) where
    -- two climbs that meet by spots meet by nodes
    meet : (a b t : ℕ) → a < n → b < n → t < n → Climbs stops (at spot a) (at spot b) (at spot t)
        → Meet parent a b t
    meet a b t ba bb bt c = record {
      left = numbers.span_above g m t a bt ba c.p_low (omega (arith, c.p_high, numbers.stop_at g m t bt));
      right = numbers.span_above g m t b bt bb c.q_low (omega (arith, c.q_high, numbers.stop_at g m t bt));
      first = first;
    }
      where
        first : (z : ℕ) → Above (at parent) t z → z ≢ t → Above (at parent) z b → ¬ Above (at parent) z a
        first z h o k l =
            let bz = fits_up T ba l in
            let i = numbers.nest_up g m bz h in
            let j = numbers.nest_up g m bb k in
            c.apart (at spot z) (lower i.0) (numbers.nest_up g m ba l).0
            (omega (arith, numbers.stop_at g m z bz, j.1, numbers.size_some g m b bb))
          where
            lower : at spot t ≤ at spot z → at spot t < at spot z
            lower h = pick (ℕ_discrete (at spot t) (at spot z))
              where
                pick : Dec (at spot t ≡ at spot z) → at spot t < at spot z
                pick (yes e) = absurd (o (numbers.spot_one g m z t (fits_up T ba l) bt (sym e)))
                pick (no q) = omega arith

    turn : {a b t : ℕ} → Meet parent a b t → Meet parent b a t
    turn h = record { left = h.right; right = h.left; first = λ z u o k l. h.first z u o l k }

    value : (a b x y : ℕ) (r : Best) → a < n → b < n → at spot a < at spot b → Pair a b x y → x < y
        → Cross stops heads parents names far heavy (at spot a) (at spot b) r → Value n parent d w x y r
    value a b x y r ba bb l p o c =
        let k : Climbs stops (at spot a) (at spot b) c.t = cross_climbs stops heads parents n (numbers.numbered g m)
        (numbers.nested g m) names far heavy (at spot a) (at spot b) r c (spots_of.within b bb) in
        numbers.by_spot g m (λ s. s ≡ c.t → Value n parent d w x y r) (λ t bt e. at_node t bt e (rw (sym e) at k) p o)
        c.t (omega (arith, k.p_low, spots_of.within a ba)) refl
      where
        at_node : (t : ℕ) → t < n → at spot t ≡ c.t → Climbs stops (at spot a) (at spot b) (at spot t) → {x y : ℕ}
            → Pair a b x y → x < y → Value n parent d w x y r
        at_node t bt e k = pick
          where
            h : Meet parent a b t
            h = meet a b t ba bb bt k

            w_all : r.weight + 2 * at w t ≡ key_lift + at w a + at w b
            w_all =
                omega (
                  arith,
                  c.value.weight,
                  fw.each t (omega arith) bt,
                  fw.each a (omega arith) ba,
                  fw.each b (omega arith) bb,
                  ap (at heavy) e,
                )

            d_all : r.length + 2 * at d t ≡ key_lift + at d a + at d b
            d_all =
                omega (
                  arith,
                  c.value.length,
                  fd.each t (omega arith) bt,
                  fd.each a (omega arith) ba,
                  fd.each b (omega arith) bb,
                  ap (at far) e,
                )

            pick : {x y : ℕ} → Pair a b x y → x < y → Value n parent d w x y r
            pick along o =
                record {
                  t = t;
                  meet = h;
                  weight = w_all;
                  length = d_all;
                  low = omega (arith, c.value.low, numbers.name_at g m a ba, numbers.name_at g m b bb);
                  high = omega (arith, c.value.high, numbers.name_at g m a ba, numbers.name_at g m b bb);
                }
            pick turned o =
                record {
                  t = t;
                  meet = turn h;
                  weight = omega (arith, w_all);
                  length = omega (arith, d_all);
                  low = omega (arith, c.value.low, numbers.name_at g m a ba, numbers.name_at g m b bb);
                  high = omega (arith, c.value.high, numbers.name_at g m a ba, numbers.name_at g m b bb);
                }

    module _ (Within : ℕ → Type 0) (r : Best)
        (f : Searched stops heads parents names far heavy 0 n Within (best4 0 0 0 0) r) where
      beats : (x y : ℕ) → x < y → y < n → Met n parent d w x y Within r
      beats x y o by = pick (dec_lt (at spot x) (at spot y))
        where
          bx : x < n
          bx = omega arith

          other : at spot y ≤ at spot x → at spot y < at spot x
          other l = which (ℕ_discrete (at spot y) (at spot x))
            where
              which : Dec (at spot y ≡ at spot x) → at spot y < at spot x
              which (yes e) = absurd (omega (arith, numbers.spot_one g m y x by bx e))
              which (no q) = omega arith

          pick : Dec (at spot x < at spot y) → Met n parent d w x y Within r
          pick (yes l) =
              let k = f.beats (at spot x) (at spot y) (omega arith) l (spots_of.within y by) in
              record { best = k.best; value = value x y x y k.best bx by l along o k.cross; beaten = k.beaten }
          pick (no l) =
              let h = other (omega arith) in
              let k = f.beats (at spot y) (at spot x) (omega arith) h (spots_of.within x bx) in
              record { best = k.best; value = value y x x y k.best by bx h turned o k.cross; beaten = k.beaten }

      found : searched.Found stops heads parents names far heavy 0 n Within r → Found n parent d w Within r
      found u =
          numbers.by_spot g m (λ p. p ≡ u.p → Found n parent d w Within r)
          (λ a ba ea. numbers.by_spot g m (λ q. q ≡ u.q → Found n parent d w Within r)
          (λ b bb eb. side a b ba bb ea eb (dec_lt a b)) u.q u.q_high refl)
          u.p (omega (arith, u.p_q, u.q_high)) refl
        where
          side : (a b : ℕ) → a < n → b < n → at spot a ≡ u.p → at spot b ≡ u.q → Dec (a < b)
              → Found n parent d w Within r
          side a b ba bb ea eb s = pick s
            where
              l : at spot a < at spot b
              l = omega (arith, u.p_q, ea, eb)

              c : Cross stops heads parents names far heavy (at spot a) (at spot b) r
              c = rw (ea, eb) u.cross

              pick : Dec (a < b) → Found n parent d w Within r
              pick (yes o) =
                  record {
                    x = a;
                    y = b;
                    order = o;
                    fits = bb;
                    value = value a b a b r ba bb l along o c;
                    short = u.short;
                  }
              pick (no o) =
                  let o' : b < a = strict (ℕ_discrete a b) in
                  record {
                    x = b;
                    y = a;
                    order = o';
                    fits = ba;
                    value = value a b b a r ba bb l turned o' c;
                    short = u.short;
                  }
                where
                  strict : Dec (a ≡ b) → b < a
                  strict (yes e) = absurd (omega (arith, l, ap (at spot) e))
                  strict (no q) = omega arith

      pub chosen : Chosen n parent d w Within r
      chosen = record { beats = beats; comes = comes f.comes }
        where
          comes : (r ≡ best4 0 0 0 0) ⊎ searched.Found stops heads parents names far heavy 0 n Within r
              → (r ≡ best4 0 0 0 0) ⊎ Found n parent d w Within r
          comes (inl e) = inl e
          comes (inr u) = inr (found u)
